mod Doors
