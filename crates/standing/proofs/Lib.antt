mod Beyond
mod Counting
mod Shared
