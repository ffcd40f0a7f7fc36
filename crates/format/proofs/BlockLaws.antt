-- The judgement of a block accepts exactly the inputs that begin with a well-formed block. Assumes nothing.
use mathlib.Core.Path.{◌≡◌, refl, sym, ap, ap₂, ◌∙◌, subst}
use Prim.Native.Nat.{ℕ, zero, suc, ◌+◌, ◌≤◌, ◌<◌, ◌^◌}
use native.Mathlib.Omega.{arith}
use mathlib.Core.Bool.{Bool, true, false, cond, not, ◌&&◌, ◌||◌}
use mathlib.Core.List.{List, [], ◌∷◌, ◌++◌}
use lib.ListN.{length, take, drop, replicate, length-append, length-replicate}
use lib.ListN.{take-append-drop}
use lib.Seq.{length-take-le}
use lib.IntN.{ℤ, pos, negsuc}
use lib.Dec.{ltb, eqb}
use borrow.Author.Tests.{ltb-true, ltb-false, lt-ltb, le-ltb, eqb-true}
use Rattle.base.specs.Lists.{any, AllBytes}
use Rattle.base.specs.Groups.{group_count}
use Rattle.base.specs.Numbers.{le, non_negative}
use Rattle.base.proofs.NumberLaws.{le_below}
use Rattle.base.specs.Faults.{NoneFits}
use Rattle.base.specs.Answer.{found, refused_as}
use Rattle.base.proofs.Tests.{absurd_test, or-neither, neither_or, and_first, not-false}
use Rattle.base.proofs.ListLaws.{by_test, no_length_lem, below-take, below-drop}
use Rattle.base.proofs.AnswerLaws.{found-same, checked-none, checked-found, and_then-found}
use Rattle.base.proofs.AnswerLaws.{and_then-parts, refused_as-found, found-refused_as, cond_yes}
use Rattle.base.proofs.AnswerLaws.{cond_no}
use Rattle.dna.specs.Reference.{reference_size_wrong, ReferenceFits}
use Rattle.dna.specs.Sizes.{length_invalid}
use Rattle.dna.specs.SizesAt.{sizes_answer, fixed_lengths, lengths_given}
use Rattle.dna.specs.Division.{Divides}
use Rattle.dna.specs.Walk.{of_read, section_walk}
use Rattle.dna.proofs.SizesComplete.{sizes-answer}
use Rattle.dna.proofs.SizesSound.{answer-sizes}
use Rattle.dna.proofs.WalkComplete.{divides-walk}
use Rattle.dna.proofs.WalkSound.{walk-divides}
use Rattle.tokens.specs.NamesAt.{names_given}
use Rattle.tokens.proofs.NamesGiven.{stored-given, given-stored}
use Rattle.format.specs.Header.{Header, header_of, flag_set, same_length_flag, names_flag}
use Rattle.format.specs.Header.{read_count}
use Rattle.format.specs.Sections.{dna_number, names_number, size_number, n_number, section_start}
use Rattle.format.specs.Sections.{section_lengths, section_length, section_of, block_length}
use Rattle.format.specs.HeaderFaults.{header_faults}
use Rattle.format.specs.Lengths.{HeaderLengths, LengthsBy, LengthsAre, dna_size_wrong}
use Rattle.format.specs.Lengths.{n_section_wrong, length_faults}
use Rattle.format.specs.WellFormed.{BlockDivision, DividesBlock, WellFormed}
use Rattle.format.specs.BlockNames.{NamesBy, NamesAre}
use Rattle.format.specs.BlockAnswer.{lengths_answer, dna_trailing, dna_answer, names_answer}
use Rattle.format.specs.BlockAnswer.{block_answer}
use Rattle.format.proofs.HeaderLaws.{header_of-append, section_of-append, HeaderRight}
use Rattle.format.proofs.HeaderLaws.{faults-right, faults-same}

-- ---- Lengths

replicate-none : (n : ℕ) (x y : ℕ) → n ≤ 0 → replicate n x ≡ replicate n y
replicate-none zero x y h = refl
replicate-none (suc n) x y h = absurd (omega arith)

-- A number that is a length as a count is itself.
l-read-length : (number : ℤ) → length_invalid (non_negative number) ≡ false → number ≡ pos (non_negative number)
unfolding non_negative length_invalid
l-read-length (pos n) e = refl
l-read-length (negsuc n) e = absurd_test e

header-lengths-find : (header : Header) (section lengths : List ℕ) → HeaderLengths header section lengths
    → fixed_lengths (non_negative header.l_read) (read_count header) section ≡ found lengths 0
unfolding fixed_lengths any non_negative
header-lengths-find header section lengths h =
    let n : ℕ = read_count header in
    let each : ℕ = non_negative header.l_read in
    let empty : length section ≡ 0 = ap length h.empty in
    checked-none _ _ _
    (neither_or _ _ (le-ltb 0 (length section) (omega arith))
    (neither_or _ _
    (by_test (ltb 0 n)
    (λ some.
    let l_read = h.l_read (ltb-true 0 n some) in
    ap₂ (λ (t : Bool) (z : ℤ). t && length_invalid (non_negative z)) some l_read.0 ∙ l_read.1)
    (λ none. ap (λ (t : Bool). t && length_invalid each) none)) refl))
    ∙ ap (λ (l : List ℕ). found l 0)
    (by_test (ltb 0 n)
    (λ some. ap (λ (z : ℤ). replicate n (non_negative z)) (h.l_read (ltb-true 0 n some)).0 ∙ sym h.lengths_are)
    (λ none. replicate-none n _ h.read_length (ltb-false 0 n none) ∙ sym h.lengths_are))

header-lengths-found : (header : Header) (section lengths : List ℕ) (next : ℕ)
    → fixed_lengths (non_negative header.l_read) (read_count header) section ≡ found lengths next
    → HeaderLengths header section lengths
unfolding fixed_lengths any
header-lengths-found header section lengths next e =
    let n : ℕ = read_count header in
    let each : ℕ = non_negative header.l_read in
    let parts = checked-found (λ n. n) _ _ e in
    let first : (ltb 0 (length section) ≡ false) × ((ltb 0 n && length_invalid each) || false ≡ false) = or-neither _ _ parts.0 in
    let second : (ltb 0 n && length_invalid each ≡ false) × (false ≡ false) = or-neither _ _ first.1 in
    let eq = found-same parts.1 in
    record {
      empty = no_length_lem section (ltb-false 0 _ first.0);
      read_length = each;
      l_read = λ some.
          let valid : length_invalid each ≡ false = and_first (ltb 0 n) _ second.0 (lt-ltb 0 n some) in
          (l-read-length header.l_read valid, valid);
      lengths_are = sym eq.0;
    }

-- What lengths the block has, and how many.
pub lengths-count : (same_length : Bool) (header : Header) (section lengths : List ℕ) → LengthsBy same_length header section lengths
    → length lengths ≡ read_count header
lengths-count true header section lengths h = ap length h.lengths_are ∙ length-replicate (read_count header) h.read_length
lengths-count false header section lengths h = h.counted

-- The lengths of a block are its answer.
pub lengths-find : (input lengths : List ℕ) → LengthsAre input lengths → (next : ℕ) × (lengths_answer input ≡ found lengths next)
unfolding lengths_answer lengths_given
lengths-find input lengths h =
    let go : (t : Bool) → flag_set (header_of input).flags same_length_flag ≡ t → LengthsBy t (header_of input) (section_of input size_number) lengths
    → (next : ℕ) × (lengths_answer input ≡ found lengths next)
    = elim [
      | true ↦ λ e l. (0, cond_yes _ e (header-lengths-find (header_of input) (section_of input size_number) lengths l))
      | false ↦ λ e l. (
        length (section_of input size_number),
        cond_no _ e (sizes-answer (read_count (header_of input)) (section_of input size_number) lengths l.stored l.counted),
      )
    ] in
    go (flag_set (header_of input).flags same_length_flag) refl h

-- What is answered are the lengths of the block.
pub lengths-found : (input lengths : List ℕ) (next : ℕ) → AllBytes (section_of input size_number) → lengths_answer input ≡ found lengths next
    → LengthsAre input lengths
unfolding lengths_answer lengths_given
lengths-found input lengths next bytes e =
    let header : Header = header_of input in
    let section : List ℕ = section_of input size_number in
    let go : (t : Bool)
    → cond t (fixed_lengths (non_negative header.l_read) (read_count header) section) (sizes_answer (read_count header) section) ≡ found lengths next
    → LengthsBy t (header_of input) (section_of input size_number) lengths
    = elim [
      | true ↦ λ h. header-lengths-found header section lengths next h
      | false ↦ λ h.
          let a = answer-sizes (read_count (header_of input)) (section_of input size_number) lengths next bytes h in
          record { counted = a.counted; stored = a.stored }
    ] in
    go (flag_set (header_of input).flags same_length_flag) e

-- ---- Names

-- What is taken of a list is at most what was asked for.
take_short : (n : ℕ) (list : List ℕ) → length (take n list) ≤ n
take_short zero list = omega arith
take_short (suc n) [] = omega arith
take_short (suc n) (x ∷ xs) = omega (arith, take_short n xs)

-- A names section is as short as the four bytes of its length can say.
pub names-short : (input : List ℕ) → AllBytes input → length (section_of input names_number) < 2 ^ 32
unfolding section_of section_length section_lengths header_of
names-short input bytes =
    let few : length (section_of input names_number) ≤ le 4 input 10 = take_short (le 4 input 10) _ in
    omega (arith, le_below 4 input 10 bytes)

-- The names of a block are its answer.
pub names-find : (input : List ℕ) (names : List (List ℕ)) → length (section_of input names_number) < 2 ^ 32 → NamesAre input names
    → (next : ℕ) × (names_answer input ≡ found names next)
unfolding names_answer
names-find input names short h =
    let reads : ℕ = read_count (header_of input) in
    let section : List ℕ = section_of input names_number in
    let go : (t : Bool) → flag_set (header_of input).flags names_flag ≡ t → NamesBy t reads section names
    → (next : ℕ) × (names_answer input ≡ found names next)
    = elim [
      | true ↦ λ e l. (length section, cond_yes _ e (stored-given reads section names (omega arith) l))
      | false ↦ λ e l. (0, cond_no _ e (ap (λ (ns : List (List ℕ)). found ns 0) (sym l)))
    ] in
    go (flag_set (header_of input).flags names_flag) refl h

-- What is answered are the names of the block.
pub names-answered : (input : List ℕ) (names : List (List ℕ)) (next : ℕ) → AllBytes (section_of input names_number) → names_answer input ≡ found names next
    → NamesAre input names
unfolding names_answer
names-answered input names next bytes e =
    let reads : ℕ = read_count (header_of input) in
    let section : List ℕ = section_of input names_number in
    let go : (t : Bool) → cond t (names_given reads section) (found [] 0) ≡ found names next → NamesBy t reads section names
    = elim [
      | true ↦ λ h. (given-stored reads section names next bytes h).0
      | false ↦ λ h. sym (found-same h).0
    ] in
    go (flag_set (header_of input).flags names_flag) e

-- ---- A block and what follows it

-- Two inputs have the same header and the same sections.
pub record SameBlock (one other : List ℕ) : Type 0 where
  pub header : header_of one ≡ header_of other
  pub sections : (number : ℕ) → section_of one number ≡ section_of other number

pub same-append : (block rest : List ℕ) → 121 ≤ length block → block_length (header_of block) ≤ length block → SameBlock (block ++ rest) block
same-append block rest table whole =
    record { header = header_of-append block rest table; sections = λ number. section_of-append block rest number table whole }

lengths-same : (one other lengths : List ℕ) → SameBlock one other → LengthsAre one lengths → LengthsAre other lengths
lengths-same one other lengths s h =
    subst (λ (section : List ℕ). LengthsBy (flag_set (header_of other).flags same_length_flag) (header_of other) section lengths) (s.sections size_number)
    (subst (λ (header : Header). LengthsBy (flag_set header.flags same_length_flag) header (section_of one size_number) lengths) s.header h)

names_same : (one other : List ℕ) (names : List (List ℕ)) → SameBlock one other → NamesAre one names → NamesAre other names
names_same one other names s h =
    subst (λ (section : List ℕ). NamesBy (flag_set (header_of other).flags names_flag) (read_count (header_of other)) section names) (s.sections names_number)
    (subst (λ (header : Header). NamesBy (flag_set header.flags names_flag) (read_count header) (section_of one names_number) names) s.header h)

length_faults-same : (one other lengths : List ℕ) → SameBlock one other → NoneFits (length_faults one lengths) → NoneFits (length_faults other lengths)
unfolding length_faults any dna_size_wrong n_section_wrong
length_faults-same one other lengths s none =
    let first = or-neither (dna_size_wrong one lengths) _ none in
    let second = or-neither (n_section_wrong one) _ first.1 in
    neither_or _ _ (rw s.header at first.0)
    (neither_or _ _
    (ap₂ (λ (section : List ℕ) (header : Header). not (eqb (length section) (group_count (read_count header)))) (sym (s.sections n_number)) (sym s.header)
    ∙ second.0) refl)

divides-same : (bases : ℕ) (one other : List ℕ) (divided : BlockDivision) → SameBlock one other → DividesBlock bases one divided
    → DividesBlock bases other divided
divides-same bases one other divided s d =
    record {
      lengths_are = lengths-same one other divided.lengths s d.lengths_are;
      divides =
          subst (λ (dna : List ℕ). Divides bases divided.lengths (section_of other n_number) dna divided.division) (s.sections dna_number)
          (subst (λ (n : List ℕ). Divides bases divided.lengths n (section_of one dna_number) divided.division) (s.sections n_number) d.divides);
      names-are = names_same one other divided.names s d.names-are;
    }

back : {one other : List ℕ} → SameBlock one other → SameBlock other one
back s = record { header = sym s.header; sections = λ number. sym (s.sections number) }

-- The lengths of a block are unique.
pub one-lengths : (input ones others : List ℕ) → LengthsAre input ones → LengthsAre input others → ones ≡ others
one-lengths input ones others h k =
    (found-same (sym (lengths-find input ones h).1 ∙ (lengths-find input others k).1)).0

-- The names of a block are unique.
pub one-names : (input : List ℕ) (ones others : List (List ℕ)) → length (section_of input names_number) < 2 ^ 32 → NamesAre input ones
    → NamesAre input others → ones ≡ others
one-names input ones others short h k =
    (found-same (sym (names-find input ones short h).1 ∙ (names-find input others short k).1)).0

-- ---- Well-formed, then accepted

-- An input whose header and lengths earn no fault is accepted with every division of it.
answer_accepts : (bases : ℕ) (reference input : List ℕ) (divided : BlockDivision) → ReferenceFits bases reference
    → NoneFits (header_faults input) → NoneFits (length_faults input divided.lengths) → DividesBlock bases input divided
    → length (section_of input names_number) < 2 ^ 32 → block_answer bases reference input ≡ found divided (block_length (header_of input))
unfolding block_answer dna_answer dna_trailing any
answer_accepts bases reference input divided fits header lengths_right d short =
    let dna : List ℕ = section_of input dna_number in
    and_then-found _
    (checked-none _ _ _ (neither_or _ _ fits.fits header)
    ∙ and_then-found _ (refused_as-found (λ n. of_read 0 9) (lengths-find input divided.lengths d.lengths_are).1)
    (checked-none _ _ _ lengths_right
    ∙ and_then-found _ (divides-walk bases divided.lengths (section_of input n_number) dna divided.division d.divides)
    (checked-none _ _ _ (neither_or _ _ (le-ltb (length dna) (length dna) (omega arith)) refl))))
    (and_then-found _ (refused_as-found (λ n. of_read 0 40) (names-find input divided.names short d.names-are).1) refl)

-- A well-formed block is accepted with every division of it, whatever follows.
pub block_accepts : (bases : ℕ) (reference block rest : List ℕ) (divided : BlockDivision) → ReferenceFits bases reference
    → WellFormed bases block → DividesBlock bases block divided
    → block_answer bases reference (block ++ rest) ≡ found divided (length block)
block_accepts bases reference block rest divided fits wf d =
    let right : HeaderRight block = faults-right block wf.no_header_fault in
    let s : SameBlock (block ++ rest) block = same-append block rest right.table right.inside in
    let lengths : divided.lengths ≡ wf.divided.lengths =
    one-lengths block divided.lengths wf.divided.lengths d.lengths_are wf.divides.lengths_are in
    let n : length (block ++ rest) ≡ length block + length rest = length-append block rest in
    let size : block_length (header_of (block ++ rest)) ≡ block_length (header_of block) = ap block_length s.header in
    answer_accepts bases reference (block ++ rest) divided fits
    (faults-same block (block ++ rest) (sym s.header) wf.no_header_fault (omega arith) (omega arith))
    (length_faults-same block (block ++ rest) divided.lengths (back s)
    (subst (λ (l : List ℕ). NoneFits (length_faults block l)) (sym lengths) wf.no_length_fault))
    (divides-same bases block (block ++ rest) divided (back s) d)
    (subst (λ (section : List ℕ). length section < 2 ^ 32) (sym (s.sections names_number)) (names-short block wf.bytes))
    ∙ ap (found divided) (size ∙ sym wf.exact)

-- ---- Accepted, then well-formed

pub section-bytes : (input : List ℕ) (number : ℕ) → AllBytes input → AllBytes (section_of input number)
unfolding section_of
section-bytes input number bytes =
    below-take (drop (section_start (header_of input) number) input) (section_length (header_of input) number)
    (below-drop input (section_start (header_of input) number) bytes)

-- The N section has a byte for each group of the lengths, where 11 does not fit.
pub groups-counted : (input lengths : List ℕ) → LengthsAre input lengths → NoneFits (length_faults input lengths)
    → length (section_of input n_number) ≡ group_count (length lengths)
unfolding length_faults n_section_wrong any
groups-counted input lengths are none =
    let size = or-neither (n_section_wrong input) _ (or-neither (dna_size_wrong input lengths) _ none).1 in
    let many : length lengths ≡ read_count (header_of input) =
    lengths-count (flag_set (header_of input).flags same_length_flag) (header_of input) (section_of input size_number) lengths are in
    eqb-true _ _ (not-false (eqb (length (section_of input n_number)) (group_count (read_count (header_of input)))) size.0)
    ∙ ap group_count (sym many)

-- What an accepted input begins with.
pub record Accepted (bases : ℕ) (input : List ℕ) (divided : BlockDivision) (next : ℕ) : Type 0 where
  pub header : NoneFits (header_faults input)
  pub lengths : NoneFits (length_faults input divided.lengths)
  pub divides : DividesBlock bases input divided
  pub size : next ≡ block_length (header_of input)

-- What an input accepted with 1 to 21 has.
pub record DnaAccepted (bases : ℕ) (input : List ℕ) (divided : BlockDivision) (next : ℕ) : Type 0 where
  pub header : NoneFits (header_faults input)
  pub lengths : NoneFits (length_faults input divided.lengths)
  pub lengths_are : LengthsAre input divided.lengths
  pub divides : Divides bases divided.lengths (section_of input n_number) (section_of input dna_number) divided.division
  pub size : next ≡ block_length (header_of input)

pub dna-found : (bases : ℕ) (reference input : List ℕ) (divided : BlockDivision) (next : ℕ) → AllBytes input
    → dna_answer bases reference input ≡ found divided next → DnaAccepted bases input divided next
unfolding dna_answer dna_trailing any
dna-found bases reference input divided next bytes e =
    let first = checked-found (of_read 0) _ _ e in
    let header = or-neither (reference_size_wrong bases reference) _ first.0 in
    let n_section : List ℕ = section_of input n_number in
    let dna : List ℕ = section_of input dna_number in
    and_then-parts (refused_as (λ n. of_read 0 9) (lengths_answer input)) _ first.1 (λ lengths end e₁ e₂.
    let second = checked-found (of_read 0) (length_faults input lengths) _ e₂ in
    let are : LengthsAre input lengths =
    lengths-found input lengths end (section-bytes input size_number bytes) (found-refused_as (λ n. of_read 0 9) (lengths_answer input) e₁) in
    and_then-parts (section_walk bases lengths n_section dna) _ second.1 (λ division last e₃ e₄.
    let third = checked-found (of_read 0) _ _ e₄ in
    let same = found-same third.1 in
    let left : length dna ≤ last = ltb-false last (length dna) (or-neither (ltb last (length dna)) _ third.0).0 in
    subst (λ (d : BlockDivision). DnaAccepted bases input d next) same.0
    (record {
      header = header.1;
      lengths = second.0;
      lengths_are = are;
      divides =
          walk-divides bases lengths n_section dna division last (section-bytes input dna_number bytes)
          (groups-counted input lengths are second.0) e₃ left;
      size = sym same.1;
    })))

pub block-found : (bases : ℕ) (reference input : List ℕ) (divided : BlockDivision) (next : ℕ) → AllBytes input
    → block_answer bases reference input ≡ found divided next → Accepted bases input divided next
unfolding block_answer
block-found bases reference input divided next bytes e =
    and_then-parts (dna_answer bases reference input) _ e (λ part last e₁ e₂.
    let dna : DnaAccepted bases input part last = dna-found bases reference input part last bytes e₁ in
    and_then-parts (refused_as (λ n. of_read 0 40) (names_answer input)) _ e₂ (λ names over e₃ e₄.
    let same = found-same e₄ in
    subst (λ (d : BlockDivision). Accepted bases input d next) same.0
    (record {
      header = dna.header;
      lengths = dna.lengths;
      divides = record {
        lengths_are = dna.lengths_are;
        divides = dna.divides;
        names-are =
            names-answered input names over (section-bytes input names_number bytes)
            (found-refused_as (λ n. of_read 0 40) (names_answer input) e₃);
      };
      size = sym same.1 ∙ dna.size;
    })))

-- The block at the start of an input that earns no fault of 2 to 8.
pub record FirstBlock (bases : ℕ) (input : List ℕ) (divided : BlockDivision) (next : ℕ) : Type 0 where
  pub block : List ℕ
  pub rest : List ℕ
  pub begins : input ≡ block ++ rest
  pub size : length block ≡ next
  pub well_formed : WellFormed bases block
  pub is : well_formed.divided ≡ divided

-- An accepted input begins with a well-formed block, divided as the answer says.
pub first_block : (bases : ℕ) (input : List ℕ) (divided : BlockDivision) (next : ℕ) → AllBytes input
    → Accepted bases input divided next → FirstBlock bases input divided next
first_block bases input divided next bytes a =
    let right : HeaderRight input = faults-right input a.header in
    let n : ℕ = block_length (header_of input) in
    let block : List ℕ = take n input in
    let rest : List ℕ = drop n input in
    let whole : block ++ rest ≡ input = take-append-drop n input in
    let size : length block ≡ n = length-take-le n input right.inside in
    let table : 121 ≤ length block = omega (arith, right.header) in
    let head : header_of input ≡ header_of block = ap header_of (sym whole) ∙ header_of-append block rest table in
    let own : block_length (header_of block) ≡ length block = ap block_length (sym head) ∙ sym size in
    let s : SameBlock input block =
    subst (λ (x : List ℕ). SameBlock x block) whole (same-append block rest table (omega arith)) in
    record {
      block = block;
      rest = rest;
      begins = sym whole;
      size = size ∙ sym a.size;
      well_formed = record {
        bytes = below-take input n bytes;
        exact = sym own;
        no_header_fault = faults-same input block head a.header table (omega arith);
        divided = divided;
        divides = divides-same bases input block divided s a.divides;
        no_length_fault = length_faults-same input block divided.lengths s a.lengths;
      };
      is = refl;
    }
