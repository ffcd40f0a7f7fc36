-- Writing a group: its records read by read, then its four bytes. Assumes nothing.
use mathlib.Core.Path.{◌≡◌, refl, sym, ap, ap₂, ◌∙◌}
use Prim.Native.Nat.{ℕ, suc, ◌+◌, ◌-◌, ◌*◌, ◌/◌, ◌%◌, ◌^◌, ◌≤◌, ◌<◌}
use native.Mathlib.Nat.{add-mul, mul_assoc, mod-eq_of_lt}
use native.Mathlib.Numerals.{add-one}
use native.Mathlib.Omega.{arith}
use mathlib.Core.Bool.{Bool, cond}
use mathlib.Core.List.{List, [], ◌∷◌, ◌++◌, flat_map, head-eq_of_cons-eq, tail-eq_of_cons-eq}
use lib.ListN.{length, get_or, take, drop, length-take, length-drop}
use lib.Seq.{drop-cons, get_or-take}
use Rattle.base.specs.Groups.{flag_byte}
use Rattle.base.specs.Numbers.{le_bytes}
use Rattle.base.specs.Paste.{pasted}
use Rattle.base.proofs.PasteLaws.{pasted-apart, pasted_append}
use Rattle.base.proofs.PastingLaws.{Pasting, pasting_room, pasting_turn, pasting_end}
use Rattle.base.proofs.FlagByteLaws.{gathered, gathered_none, gathered_turn, gathered_room}
use Rattle.base.proofs.FlagByteLaws.{gathered_end, flag_byte-byte}
use Rattle.dna.specs.Division.{group_bytes}
use Rattle.format.specs.RuleRecord.{Written}
use Rattle.format.specs.RuleBlock.{written_group}
use Rattle.dna_writer.specs.Section.{bytes_of}
use Rattle.dna_writer.specs.Writer.{flag_bits}
use Rattle.dna_writer.proofs.SectionLaws.{group-bytes}
use Rattle.dna_writer.proofs.RecordSteps.{drop_past}

-- ---- The records

-- What is written of the first eight records from record k on.
abbrev pub group_left : (records : List Written) (k : ℕ) → List ℕ
group_left records k = flat_map bytes_of (drop k (take 8 records))

module _ (records : List Written) (k : ℕ) (w : Written) (rest : List Written) (few : k < 8)
    (split : drop k records ≡ w ∷ rest) where
  inside : k < length records
  inside = omega (arith, sym (length-drop k records) ∙ ap length split)

  whole : get_or records k w ∷ drop (suc k) records ≡ w ∷ rest
  whole = sym (drop-cons records k w inside) ∙ split

  pub rest_after : drop (k + 1) records ≡ rest
  rest_after = ap (λ (j : ℕ). drop j records) (add-one k) ∙ tail-eq_of_cons-eq whole

  pub group_inside : k < length (take 8 records)
  group_inside = omega (arith, length-take 8 records, inside)

  pub group_here : get_or (take 8 records) k w ≡ w
  group_here = get_or-take 8 records k w few ∙ head-eq_of_cons-eq whole

  group_split : group_left records k ≡ bytes_of w ++ group_left records (k + 1)
  unfolding flat_map
  group_split =
      ap (flat_map bytes_of) (drop-cons (take 8 records) k w group_inside)
      ∙ ap₂ (λ (x : Written) (j : ℕ). bytes_of x ++ flat_map bytes_of (drop j (take 8 records)))
      group_here (sym (add-one k))

  module _ {goal : List ℕ} {end : ℕ} {out : List ℕ} {place : ℕ}
      (writing : Pasting goal end out place (group_left records k)) where
    pub record_room : place + length (bytes_of w) ≤ length out
    record_room = pasting_room writing (bytes_of w) (group_left records (k + 1)) group_split

    pub record_turn : (new : List ℕ) (next : ℕ) → new ≡ pasted out place (bytes_of w)
        → next ≡ place + length (bytes_of w)
        → Pasting goal end new next (group_left records (k + 1))
    record_turn new next written there =
        pasting_turn writing (bytes_of w) (group_left records (k + 1)) new next group_split written
        there

pub records-end : (records : List Written) (k : ℕ) {goal : List ℕ} {end : ℕ} {out : List ℕ}
    {place : ℕ} → length (take 8 records) ≤ k
    → Pasting goal end out place (group_left records k) → (out ≡ goal) × (place ≡ end)
unfolding flat_map
records-end records k all writing =
    pasting_end writing (ap (flat_map bytes_of) (drop_past k (take 8 records) all))

-- ---- The bits

abbrev perfect : (w : Written) → Bool
perfect w = w.context.perfect_bit

abbrev forward : (w : Written) → Bool
forward w = w.context.forward

abbrev with_n : (w : Written) → Bool
with_n w = w.context.with_n

abbrev incremental : (w : Written) → Bool
incremental w = w.context.incremental

-- Four numbers below 256 in one.
abbrev in_one : (a b c d : ℕ) → ℕ
in_one a b c d = a + 256 * b + 65536 * c + 16777216 * d

times : (n b p b' : ℕ) → b * p ≡ b' → n * b * p ≡ n * b'
times n b p b' e = mul_assoc n b p ∙ ap (λ (x : ℕ). n * x) e

-- Each of the four is shifted.
shifted : (a b c d p a' b' c' d' : ℕ) → a * p ≡ a' → b * p ≡ b' → c * p ≡ c' → d * p ≡ d'
    → in_one a b c d * p ≡ in_one a' b' c' d'
shifted a b c d p a' b' c' d' e f g h =
    add-mul (a + 256 * b + 65536 * c) (16777216 * d) p
    ∙ ap₂ (λ (x y : ℕ). x + y)
    (add-mul (a + 256 * b) (65536 * c) p
    ∙ ap₂ (λ (x y : ℕ). x + y)
    (add-mul a (256 * b) p ∙ ap₂ (λ (x y : ℕ). x + y) e (times 256 b p b' f))
    (times 65536 c p c' g))
    (times 16777216 d p d' h)

upper : (low high : ℕ) → low < 256 → (low + 256 * high) / 256 ≡ high
upper low high small = omega arith

lower : (low high : ℕ) → low < 256 → (low + 256 * high) % 256 ≡ low
lower low high small = omega arith

four_bytes : (x a b c d : ℕ) → a < 256 → b < 256 → c < 256 → d < 256 → x ≡ in_one a b c d
    → le_bytes 4 x ≡ a ∷ b ∷ c ∷ d ∷ []
unfolding le_bytes
four_bytes x a b c d la lb lc ld is =
    let one : x / 256 ≡ b + 256 * (c + 256 * d) = omega arith in
    let two : x / 256 / 256 ≡ c + 256 * d =
    ap (λ (n : ℕ). n / 256) one ∙ upper b (c + 256 * d) lb in
    let three : x / 256 / 256 / 256 ≡ d = ap (λ (n : ℕ). n / 256) two ∙ upper c d lc in
    let e₀ : x % 256 ≡ a = omega arith in
    let e₁ : x / 256 % 256 ≡ b = ap (λ (n : ℕ). n % 256) one ∙ lower b (c + 256 * d) lb in
    let e₂ : x / 256 / 256 % 256 ≡ c = ap (λ (n : ℕ). n % 256) two ∙ lower c d lc in
    let e₃ : x / 256 / 256 / 256 % 256 ≡ d = ap (λ (n : ℕ). n % 256) three ∙ mod-eq_of_lt ld in
    ap₂ (λ (p q : ℕ). p ∷ q ∷ x / 256 / 256 % 256 ∷ x / 256 / 256 / 256 % 256 ∷ []) e₀ e₁
    ∙ ap₂ (λ (p q : ℕ). a ∷ b ∷ p ∷ q ∷ []) e₂ e₃

module _ (group : List Written) where
  -- The bits of the first k records.
  unfoldable pub gathered_bits : (k : ℕ) → ℕ
  gathered_bits k =
      in_one (gathered perfect group k) (gathered forward group k) (gathered with_n group k)
      (gathered incremental group k)

  pub bits_none : 0 ≡ gathered_bits 0
  unfolding gathered_bits
  bits_none =
      omega (
        arith,
        gathered_none perfect group,
        gathered_none forward group,
        gathered_none with_n group,
        gathered_none incremental group,
      )

  pub bits_turn : (k flags : ℕ) (w : Written) → k < length group → get_or group k w ≡ w
      → flags ≡ gathered_bits k → flags * 2 + flag_bits w.context ≡ gathered_bits (k + 1)
  unfolding gathered_bits flag_bits
  bits_turn k flags w inside here is =
      let one : (test : Written → Bool)
      → gathered test group k * 2 + cond (test w) 1 0 ≡ gathered test group (k + 1) =
      λ test.
      ap (λ (x : Written). gathered test group k * 2 + cond (test x) 1 0) (sym here)
      ∙ gathered_turn test group k (gathered test group k) w inside refl in
      omega (arith, is, one perfect, one forward, one with_n, one incremental)

  pub bits_room : (k flags : ℕ) → k < 8 → flags ≡ gathered_bits k → flags ≤ 0x7f7f7f7f
  unfolding gathered_bits
  bits_room k flags few is =
      omega (
        arith,
        is,
        gathered_room perfect group k few,
        gathered_room forward group k few,
        gathered_room with_n group k few,
        gathered_room incremental group k few,
      )

  module _ (reads flags : ℕ) (all : reads ≡ length group) (few : reads ≤ 8)
      (is : flags ≡ gathered_bits reads) where
    abbrev four_of : ℕ
    four_of =
        in_one (flag_byte perfect group) (flag_byte forward group) (flag_byte with_n group)
        (flag_byte incremental group)

    bits_shifted : flags * 2 ^ (8 - reads) ≡ four_of
    unfolding gathered_bits
    bits_shifted =
        let end : (test : Written → Bool)
        → gathered test group reads * 2 ^ (8 - reads) ≡ flag_byte test group =
        λ test. gathered_end test group reads (gathered test group reads) all few refl in
        ap (λ (f : ℕ). f * 2 ^ (8 - reads)) is
        ∙ shifted (gathered perfect group reads) (gathered forward group reads)
        (gathered with_n group reads) (gathered incremental group reads) (2 ^ (8 - reads)) _ _ _ _
        (end perfect) (end forward) (end with_n) (end incremental)

    pub bits_small : flags * 2 ^ (8 - reads) < 2 ^ 32
    bits_small =
        omega (
          arith,
          bits_shifted,
          flag_byte-byte perfect group,
          flag_byte-byte forward group,
          flag_byte-byte with_n group,
          flag_byte-byte incremental group,
        )

    -- The four bytes.
    pub bits_bytes : (x : ℕ) → x ≡ flags * 2 ^ (8 - reads)
        → le_bytes 4 x
        ≡ flag_byte perfect group
        ∷ flag_byte forward group
        ∷ flag_byte with_n group
        ∷ flag_byte incremental group
        ∷ []
    bits_bytes x e =
        four_bytes x (flag_byte perfect group) (flag_byte forward group) (flag_byte with_n group)
        (flag_byte incremental group) (flag_byte-byte perfect group) (flag_byte-byte forward group)
        (flag_byte-byte with_n group) (flag_byte-byte incremental group) (e ∙ bits_shifted)

-- ---- A whole group

-- A front written before what follows it is there already.
pasted-front : (buffer : List ℕ) (at : ℕ) (front rest : List ℕ)
    → at + length front + length rest ≤ length buffer
    → pasted (pasted buffer (at + length front) rest) at front ≡ pasted buffer at (front ++ rest)
pasted-front buffer at front rest fits =
    pasted-apart buffer at front (at + length front) rest (omega arith) fits
    ∙ pasted_append buffer at front (omega arith) rest

module _ (group : List Written) (buffer : List ℕ) (at : ℕ)
    (room : at + length (group_bytes (written_group group)) ≤ length buffer) where
  pub group_room : at + 4 + length (flat_map bytes_of group) ≤ length buffer
  group_room = omega (arith, room, ap length (group-bytes group))

  -- The records, then the four bytes before them.
  pub group_written : (between out : List ℕ) (place x : ℕ)
      → (between ≡ pasted buffer (at + 4) (flat_map bytes_of group))
      × (place ≡ at + 4 + length (flat_map bytes_of group))
      → le_bytes 4 x
      ≡ flag_byte perfect group
      ∷ flag_byte forward group
      ∷ flag_byte with_n group
      ∷ flag_byte incremental group
      ∷ []
      → out ≡ pasted between at (le_bytes 4 x)
      → (out ≡ pasted buffer at (group_bytes (written_group group)))
      × (place ≡ at + length (group_bytes (written_group group)))
  group_written between out place x records bytes written = (
    written
        ∙ ap₂ (λ (b f : List ℕ). pasted b at f) records.0 bytes
        ∙ pasted-front buffer at
        (flag_byte perfect group
        ∷ flag_byte forward group
        ∷ flag_byte with_n group
        ∷ flag_byte incremental group
        ∷ []) (flat_map bytes_of group) group_room
        ∙ ap (pasted buffer at) (sym (group-bytes group)),
    omega (arith, records.1, ap length (group-bytes group)),
  )
