-- Pieces put one after the other are their join put at once; and a loop that prints, in the middle of its work.
-- Assumes nothing.
use mathlib.Core.Path.{◌≡◌, refl, sym, ◌∙◌, ap}
use mathlib.Core.List.{List, [], ◌∷◌, ◌++◌, append_assoc, append-nil}
use Prim.Native.Nat.{ℕ, suc, ◌+◌, ◌≤◌}
use native.Mathlib.Nat.{add-zero}
use native.Mathlib.Omega.{arith}
use lib.ListN.{length, take, drop, set, length-append}
use lib.Seq.{sets, sets-eq, length-sets, drop-drop}
use borrow.Rule.Slice.PartMut.{put_mid}
use Rattle.prints.specs.declared.text.Out.{Out}
use Rattle.prints.specs.Put.{Put, Puts}

sets_append : (p q l : List ℕ) (i : ℕ) → sets (sets l i p) (i + length p) q ≡ sets l i (p ++ q)
sets_append [] q l i = rw add-zero
sets_append (a ∷ p) q l i =
    let e : i + suc (length p) ≡ suc i + length p = omega arith in
    rw e (sets_append p q (set l i a) (suc i))

pub put_none : (at : ℕ) (l : List ℕ) → Put at at l l []
put_none at l = record { offset = omega arith; bytes = refl }

pub put_then : {m n at : ℕ} {was mid out p q : List ℕ} → Put m at was mid p → Put n m mid out q → Put n at was out (p ++ q)
put_then {m} {n} {at} {was} {mid} {out} {p} {q} a b =
    record {
      offset = omega (arith, length-append p q, a.offset, b.offset);
      bytes =
          b.bytes
          ∙ ap (λ (l : List ℕ). sets l m q) a.bytes
          ∙ ap (λ (i : ℕ). sets (sets was at p) i q) a.offset
          ∙ sets_append p q was at;
    }

pub put_length : {n at : ℕ} {was out p : List ℕ} → Put n at was out p → length out ≡ length was
put_length {n} {at} {was} {out} {p} a = ap length a.bytes ∙ length-sets was at p

-- ---- amid a print: done is what stands there, rest is what is still to come, and together they are the whole

pub record Amid (n at : ℕ) (was out rest whole : List ℕ) : Type 0 where
  pub done : List ℕ
  pub put : Put n at was out done
  pub joins : done ++ rest ≡ whole

pub amid_start : (at : ℕ) (l whole : List ℕ) → Amid at at l l whole whole
amid_start at l whole = record { done = []; put = put_none at l; joins = refl }

pub amid_more : {m n at : ℕ} {was mid out p rest whole : List ℕ} → Amid m at was mid (p ++ rest) whole → Put n m mid out p → Amid n at was out rest whole
amid_more {m} {n} {at} {was} {mid} {out} {p} {rest} {whole} a b =
    record { done = a.done ++ p; put = put_then a.put b; joins = append_assoc a.done p rest ∙ a.joins }

pub amid_end : {n at : ℕ} {was out whole : List ℕ} → Amid n at was out [] whole → Put n at was out whole
amid_end {n} {at} {was} {out} {whole} a = let e : a.done ≡ whole = sym (append-nil a.done) ∙ a.joins in rw e at a.put

pub amid_length : {n at : ℕ} {was out rest whole : List ℕ} → Amid n at was out rest whole → length out ≡ length was
amid_length a = put_length a.put

-- what is still to come has room where the whole has
pub amid_room : {n at : ℕ} {was out rest whole : List ℕ} → Amid n at was out rest whole → n + length rest ≡ at + length whole
amid_room {n} {at} {was} {out} {rest} {whole} a =
    let e : length a.done + length rest ≡ length whole = sym (length-append a.done rest) ∙ ap length a.joins in omega (arith, a.put.offset)

-- ---- what is put goes on where the last piece ended

pub puts_by : {was out : Out} {p : List ℕ} → Put out.at was.at was.bytes.now out.bytes.now p → out.bytes.ghost_name ≡ was.bytes.ghost_name → Puts was out p
puts_by a e = record { put = a; same = e; long = put_length a }

pub puts_none : (out : Out) → Puts out out []
puts_none out = puts_by (put_none out.at out.bytes.now) refl

pub puts_then : {was mid out : Out} {p q : List ℕ} → Puts was mid p → Puts mid out q → Puts was out (p ++ q)
puts_then a b = puts_by (put_then a.put b.put) (b.same ∙ a.same)

-- ---- a text copied over the part of the bytes where it is to stand

pub over_is : (at k : ℕ) (was part text : List ℕ) → k ≡ length text → at + length text ≤ length was → part ≡ text → put_mid at k was part ≡ sets was at text
over_is at k was part text e h p =
    rw (p, e)
    (ap (λ (l : List ℕ). take at was ++ (text ++ l)) (drop-drop (length text) at was)
    ∙ sym (append_assoc (take at was) text (drop (at + length text) was))
    ∙ sym (sets-eq text was at h))
