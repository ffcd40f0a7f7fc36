-- What the library's methods on slices and their iterators give, in the words of specs/. Assumes
-- nothing.
use mathlib.Core.Path.{◌≡◌, sym, ap, ap₂, refl, ◌∙◌}
use Prim.Native.Nat.{ℕ, ◌+◌}
use mathlib.Core.Bool.{Bool, ◌||◌}
use mathlib.Core.List.{List, [], ◌∷◌, ◌++◌, append_assoc}
use lib.ListN.{length, take, drop}
use lib.Seq.{drop-drop}
use borrow.Rule.Slice.PartMut.{put_mid}
use Rattle.std.specs.List.{list_any}
use Rattle.base.specs.Lists.{any}
use Rattle.base.specs.Paste.{pasted}

-- A part of a buffer that was written as a slice: `len` elements from `at` on, which are now `new`.
pub pasted_mid : {A : Type 0} {new : List A} (at len : ℕ) (buffer part : List A) → new ≡ part
    → length part ≡ len → put_mid at len buffer new ≡ pasted buffer at part
unfolding pasted
pasted_mid {A} at len buffer part e n =
    ap₂ (λ (l r : List A). take at buffer ++ (l ++ r)) e (drop-drop len at buffer)
    ∙ sym (append_assoc (take at buffer) part (drop (at + len) buffer))
    ∙ ap (λ (k : ℕ). take at buffer ++ part ++ drop (at + k) buffer) (sym n)

-- A test on some element.
pub any_list : {A : Type 0} (test : A → Bool) (list : List A) → any test list ≡ list_any test list
unfolding any
any_list test [] = refl
any_list test (x ∷ list) = ap (λ (b : Bool). test x || b) (any_list test list)
