-- A prefix of a file has a prefix of its blocks, cuts, reads and names. Assumes nothing.
use mathlib.Core.Path.{◌≡◌, refl, sym, ap, ap₂, ◌∙◌, subst}
use Prim.Native.Nat.{ℕ, ◌+◌, ◌≤◌}
use native.Mathlib.Omega.{arith}
use mathlib.Core.List.{List, [], ◌∷◌, ◌++◌, flatten, flat_map, append_assoc, head-eq_of_cons-eq}
use mathlib.Core.List.{tail-eq_of_cons-eq}
use lib.ListN.{length, length-append}
use Rattle.base.specs.Lists.{All, Begins}
use Rattle.dna.specs.Division.{Divides, SameDivision}
use Rattle.dna.proofs.OneDivision.{one_division}
use Rattle.format.specs.Sections.{section_of, dna_number, n_number}
use Rattle.format.specs.WellFormed.{BlockDivision, DividesBlock, WellFormed}
use Rattle.format.specs.Joined.{Joined, AllWellFormed, CutAt, DivideBlocks, block_reads}
use Rattle.format.specs.Joined.{file_reads, file_names}
use Rattle.format.specs.Demands.{Prefix}
use Rattle.format.proofs.BlockLaws.{one-lengths, one-names, names-short}
use Rattle.format.proofs.JudgesFiles.Blocks.{block-some, blocks-begin, one_list}

-- ---- Divisions

-- A block has one list of lengths, one division, and one list of names.
pub one-divided : (bases : ℕ) (block : List ℕ) (one other : BlockDivision) → WellFormed bases block → DividesBlock bases block one
    → DividesBlock bases block other
    → (one.lengths ≡ other.lengths) × SameDivision one.division other.division × (one.names ≡ other.names)
one-divided bases block one other wf d e =
    let lengths : one.lengths ≡ other.lengths = one-lengths block one.lengths other.lengths d.lengths_are e.lengths_are in (
      lengths,
      one_division bases other.lengths (section_of block n_number) (section_of block dna_number) one.division other.division
          (subst (λ (l : List ℕ). Divides bases l (section_of block n_number) (section_of block dna_number) one.division) lengths d.divides) e.divides,
      one-names block one.names other.names (names-short block wf.bytes) d.names-are e.names-are,
    )

divided-same : (bases : ℕ) (block : List ℕ) (one other : BlockDivision) → WellFormed bases block → DividesBlock bases block one
    → DividesBlock bases block other → one ≡ other
divided-same bases block one other wf d e =
    let same = one-divided bases block one other wf d e in
    λ i. record { lengths = same.0 i; division = same.1 i; names = same.2 i }

divisions-begin : (bases : ℕ) (bs more : List (List ℕ)) (ds es : List BlockDivision) → AllWellFormed bases bs → DivideBlocks bases bs ds
    → DivideBlocks bases (bs ++ more) es → Begins ds es
divisions-begin bases [] more [] es w d e = (es, refl)
divisions-begin bases [] more (x ∷ ds) es w d e = absurd d
divisions-begin bases (b ∷ bs) more [] es w d e = absurd d
divisions-begin bases (b ∷ bs) more (x ∷ ds) [] w d e = absurd e
divisions-begin bases (b ∷ bs) more (x ∷ ds) (y ∷ es) w d e =
    let rest = divisions-begin bases bs more ds es w.1 d.1 e.1 in
    (rest.0, ap₂ ◌∷◌ (divided-same bases b x y w.0 d.0 e.0) rest.1)

flat_map-append : {A B : Type 0} (f : A → List B) (xs ys : List A) → flat_map f (xs ++ ys) ≡ flat_map f xs ++ flat_map f ys
unfolding flat_map
flat_map-append f [] ys = refl
flat_map-append f (x ∷ xs) ys = ap (λ (rest : List _). f x ++ rest) (flat_map-append f xs ys) ∙ sym (append_assoc (f x) (flat_map f xs) (flat_map f ys))

-- ---- Cuts

-- A block of the whole that ends inside the front's blocks is one of them.
cut_inside : (before : List (List ℕ)) (block : List ℕ) (after bs more : List (List ℕ)) → All (λ b. 1 ≤ length b) (before ++ (block ∷ after))
    → before ++ (block ∷ after) ≡ bs ++ more → length (flatten before) + length block ≤ length (flatten bs)
    → (rest : List (List ℕ)) × (before ++ (block ∷ rest) ≡ bs)
unfolding flatten
cut_inside [] block after [] more some e h = absurd (omega (arith, some.0))
cut_inside [] block after (b ∷ bs) more some e h = (bs, ap (λ (x : List ℕ). x ∷ bs) (head-eq_of_cons-eq e))
cut_inside (x ∷ before) block after [] more some e h =
    absurd (omega (arith, some.0, length-append x (flatten before)))
cut_inside (x ∷ before) block after (b ∷ bs) more some e h =
    let head : x ≡ b = head-eq_of_cons-eq e in
    let rest = cut_inside before block after bs more some.1 (tail-eq_of_cons-eq e)
    (omega (arith, length-append x (flatten before), length-append b (flatten bs), ap length head)) in
    (rest.0, ap₂ ◌∷◌ head rest.1)

all-some : (bases : ℕ) (blocks : List (List ℕ)) → AllWellFormed bases blocks → All (λ b. 1 ≤ length b) blocks
all-some bases [] wfs = tt
all-some bases (block ∷ blocks) wfs = (omega (arith, block-some bases block wfs.0), all-some bases blocks wfs.1)

cut_on : (bases : ℕ) (front whole : List ℕ) (bs more : List (List ℕ)) (place : ℕ) → AllWellFormed bases bs → AllWellFormed bases (bs ++ more)
    → Joined bs front → Joined (bs ++ more) whole → CutAt bases front place → CutAt bases whole place
cut_on bases front whole bs more place wfs wgs j k cut =
    let same : cut.before ++ (cut.block ∷ cut.after) ≡ bs =
    one_list bases (cut.before ++ (cut.block ∷ cut.after)) bs cut.well_formed wfs (cut.joined ∙ sym j) in
    let all : cut.before ++ (cut.block ∷ (cut.after ++ more)) ≡ bs ++ more =
    sym (append_assoc cut.before (cut.block ∷ cut.after) more) ∙ ap (λ (x : List (List ℕ)). x ++ more) same in
    record {
      before = cut.before;
      block = cut.block;
      after = cut.after ++ more;
      well_formed = subst (λ (x : List (List ℕ)). AllWellFormed bases x) (sym all) wgs;
      joined = ap flatten all ∙ k;
      ends = cut.ends;
    }

cut-back : (bases : ℕ) (front whole : List ℕ) (bs more : List (List ℕ)) (place : ℕ) → AllWellFormed bases bs → AllWellFormed bases (bs ++ more)
    → Joined bs front → Joined (bs ++ more) whole → place ≤ length front → CutAt bases whole place → CutAt bases front place
cut-back bases front whole bs more place wfs wgs j k h cut =
    let same : cut.before ++ (cut.block ∷ cut.after) ≡ bs ++ more =
    one_list bases (cut.before ++ (cut.block ∷ cut.after)) (bs ++ more) cut.well_formed wgs (cut.joined ∙ sym k) in
    let inside = cut_inside cut.before cut.block cut.after bs more (all-some bases (cut.before ++ (cut.block ∷ cut.after)) cut.well_formed) same
    (omega (arith, cut.ends, ap length j)) in
    record {
      before = cut.before;
      block = cut.block;
      after = inside.0;
      well_formed = subst (λ (x : List (List ℕ)). AllWellFormed bases x) (sym inside.1) wfs;
      joined = ap flatten inside.1 ∙ j;
      ends = cut.ends;
    }

-- ---- A prefix

pub prefix : (bases : ℕ) (reference front whole : List ℕ) (bs cs : List (List ℕ)) → AllWellFormed bases bs → AllWellFormed bases cs
    → Joined bs front → Joined cs whole → Begins front whole → Prefix bases reference front whole bs cs
unfolding file_reads file_names
prefix bases reference front whole bs cs wfs wgs j k begins =
    let more = blocks-begin bases bs cs begins.0 wfs wgs (ap (λ (f : List ℕ). f ++ begins.0) j ∙ begins.1 ∙ sym k) in
    let wgs' : AllWellFormed bases (bs ++ more.0) = subst (λ (x : List (List ℕ)). AllWellFormed bases x) (sym more.1) wgs in
    let k' : Joined (bs ++ more.0) whole = ap flatten more.1 ∙ k in
    let begin : (ds es : List BlockDivision) → DivideBlocks bases bs ds → DivideBlocks bases cs es → Begins ds es = λ ds es d e.
    divisions-begin bases bs more.0 ds es wfs d (subst (λ (x : List (List ℕ)). DivideBlocks bases x es) (sym more.1) e) in
    record {
      blocks = (more.0, more.1);
      cuts = λ place h.
          (cut_on bases front whole bs more.0 place wfs wgs' j k', cut-back bases front whole bs more.0 place wfs wgs' j k' h);
      reads = λ ds es d e.
          let rest = begin ds es d e in (
            flat_map (block_reads reference bases) rest.0,
            sym (flat_map-append (block_reads reference bases) ds rest.0) ∙ ap (flat_map (block_reads reference bases)) rest.1,
          );
      names = λ ds es d e.
          let rest = begin ds es d e in (
            flat_map (λ block. block.names) rest.0,
            sym (flat_map-append (λ block. block.names) ds rest.0) ∙ ap (flat_map (λ block. block.names)) rest.1,
          );
    }
