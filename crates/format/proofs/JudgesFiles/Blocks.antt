-- A file of well-formed blocks is accepted with their divisions; an accepted file is joined from well-formed
-- blocks; and that list is unique. Assumes nothing.
use mathlib.Core.Path.{◌≡◌, refl, sym, ap, ap₂, ◌∙◌, subst}
use Prim.Native.Nat.{ℕ, zero, suc, ◌+◌, ◌≤◌, ◌<◌}
use native.Mathlib.Omega.{arith}
use mathlib.Core.List.{List, [], ◌∷◌, ◌++◌, flatten, flat_map, append-nil, append_assoc}
use lib.ListN.{length, take, drop, length-append}
use lib.Seq.{take_at, drop_at}
use Rattle.base.specs.Lists.{AllBytes}
use Rattle.base.specs.Answer.{Answer, found, refused, and_then, refused_as}
use Rattle.base.proofs.AnswerLaws.{and_then-found, and_then-parts, refused_as-found, found-refused_as}
use Rattle.base.proofs.AnswerLaws.{Refuses, and_then-refuses, refused_as-refuses, refuses_too}
use Rattle.base.proofs.AnswerLaws.{cond_no}
use Rattle.base.proofs.ListLaws.{all_right, below-drop}
use Rattle.dna.specs.Reference.{ReferenceFits}
use Rattle.dna.specs.Rules.{totals}
use Rattle.format.specs.Header.{header_of, read_count}
use Rattle.format.specs.Sections.{block_length}
use Rattle.format.specs.WellFormed.{BlockDivision, WellFormed}
use Rattle.format.specs.Joined.{Joined, AllWellFormed, DivideBlocks}
use Rattle.format.specs.Outcome.{accepted_file}
use Rattle.format.specs.BlockAnswer.{block_answer}
use Rattle.format.specs.FileAnswer.{BlockRefusal, in_first, in_later, blocks_answer, file_answer}
use Rattle.format.specs.FileAnswer.{file_outcome, validated}
use Rattle.format.specs.Demands.{wrapped, read_counts}
use Rattle.format.proofs.HeaderLaws.{faults-right}
use Rattle.format.proofs.BlockLaws.{block_accepts, block-found, FirstBlock, first_block}
use Rattle.format.proofs.AnswerNumbers.{OwnRefusal, least-own, block-own}
use Rattle.format.proofs.CountLaws.{file-totals}
use Rattle.format.proofs.ReadsExactly.Answers.{block-length}

-- A well-formed block holds its table of contents.
pub block-some : (bases : ℕ) (block : List ℕ) → WellFormed bases block → 121 ≤ length block
block-some bases block wf = (faults-right block wf.no_header_fault).table

-- ---- Well-formed blocks, then accepted

-- The answer of a file that has bytes: its first block's, then that of the rest.
abbrev pub on_block : (most bases : ℕ) (reference file : List ℕ) (divided : BlockDivision) (next : ℕ) → Answer BlockRefusal (List BlockDivision)
on_block most bases reference file divided next =
    and_then (refused_as in_later (blocks_answer most bases reference (drop next file))) (λ more end. found (divided ∷ more) (next + end))

pub blocks_step : (most bases : ℕ) (reference file : List ℕ) → 0 < length file
    → blocks_answer (suc most) bases reference file
    ≡ and_then (refused_as in_first (block_answer bases reference file)) (on_block most bases reference file)
unfolding blocks_answer
blocks_step most bases reference [] some = absurd (omega arith)
blocks_step most bases reference (byte ∷ bytes) some = refl

pub blocks-none : (most bases : ℕ) (reference : List ℕ) → blocks_answer most bases reference [] ≡ found [] 0
unfolding blocks_answer
blocks-none zero bases reference = refl
blocks-none (suc most) bases reference = refl

blocks_accept : (bases : ℕ) (reference : List ℕ) → ReferenceFits bases reference → (blocks : List (List ℕ)) (ds : List BlockDivision) (most : ℕ)
    → AllWellFormed bases blocks → DivideBlocks bases blocks ds → length (flatten blocks) ≤ most
    → blocks_answer most bases reference (flatten blocks) ≡ found ds (length (flatten blocks))
unfolding flatten
blocks_accept bases reference fits [] [] most wfs d h = blocks-none most bases reference
blocks_accept bases reference fits [] (x ∷ ds) most wfs d h = absurd d
blocks_accept bases reference fits (block ∷ blocks) [] most wfs d h = absurd d
blocks_accept bases reference fits (block ∷ blocks) (x ∷ ds) zero wfs d h =
    absurd (omega (arith, block-some bases block wfs.0, length-append block (flatten blocks)))
blocks_accept bases reference fits (block ∷ blocks) (x ∷ ds) (suc most) wfs d h =
    let rest : List ℕ = flatten blocks in
    let some : 121 ≤ length block = block-some bases block wfs.0 in
    let n : length (block ++ rest) ≡ length block + length rest = length-append block rest in
    blocks_step most bases reference (block ++ rest) (omega arith)
    ∙ and_then-found _ (refused_as-found in_first (block_accepts bases reference block rest x fits wfs.0 d.0))
    (and_then-found _
    (refused_as-found in_later
    (ap (blocks_answer most bases reference) (drop_at block rest (length block) refl)
    ∙ blocks_accept bases reference fits blocks ds most wfs.1 d.1 (omega arith)))
    (ap (found (x ∷ ds)) (sym n)))

divisions-count : (bases : ℕ) (blocks : List (List ℕ)) (ds : List BlockDivision) → DivideBlocks bases blocks ds → length ds ≡ length blocks
divisions-count bases [] [] d = refl
divisions-count bases [] (x ∷ ds) d = absurd d
divisions-count bases (block ∷ blocks) [] d = absurd d
divisions-count bases (block ∷ blocks) (x ∷ ds) d = ap suc (divisions-count bases blocks ds d.1)

pub file-answer : (bases : ℕ) (reference file : List ℕ) (blocks : List (List ℕ)) (ds : List BlockDivision) → ReferenceFits bases reference
    → AllWellFormed bases blocks → Joined blocks file → DivideBlocks bases blocks ds
    → validated bases reference file ≡ accepted_file (length blocks) (totals wrapped (flat_map (read_counts bases reference) ds))
unfolding validated file_answer file_outcome
file-answer bases reference file blocks ds fits wfs j d =
    let answer : blocks_answer (length file) bases reference file ≡ found ds (length file) =
    subst (λ (f : List ℕ). blocks_answer (length f) bases reference f ≡ found ds (length f)) j
    (blocks_accept bases reference fits blocks ds (length (flatten blocks)) wfs d (omega arith)) in
    ap (file_outcome reference bases) (cond_no _ fits.fits answer)
    ∙ ap₂ accepted_file (divisions-count bases blocks ds d) (file-totals bases reference ds)

-- ---- Accepted, then well-formed blocks

pub record FileFound (bases : ℕ) (reference file : List ℕ) : Type 0 where
  pub blocks : List (List ℕ)
  pub well_formed : AllWellFormed bases blocks
  pub joined : Joined blocks file

-- A file whose first block is accepted: that block, and what follows it.
pub record FirstOf (bases : ℕ) (file : List ℕ) (next : ℕ) : Type 0 where
  pub block : List ℕ
  pub well_formed : WellFormed bases block
  pub begins : file ≡ block ++ drop next file
  pub bytes : AllBytes (drop next file)
  pub less : length (drop next file) < length file

pub first_of : (bases : ℕ) (reference file : List ℕ) (divided : BlockDivision) (next : ℕ) → AllBytes file
    → block_answer bases reference file ≡ found divided next → FirstOf bases file next
first_of bases reference file divided next bytes e =
    let first : FirstBlock bases file divided next =
    first_block bases file divided next bytes (block-found bases reference file divided next bytes e) in
    let some : 121 ≤ length first.block = block-some bases first.block first.well_formed in
    let rest : drop next file ≡ first.rest =
    ap (drop next) first.begins ∙ drop_at first.block first.rest next first.size in
    record {
      block = first.block;
      well_formed = first.well_formed;
      begins = first.begins ∙ ap (λ (r : List ℕ). first.block ++ r) (sym rest);
      bytes = below-drop file next bytes;
      less = omega (arith, ap length first.begins, length-append first.block first.rest, ap length rest);
    }

blocks-found : (most bases : ℕ) (reference file : List ℕ) (ds : List BlockDivision) (end : ℕ) → AllBytes file → length file ≤ most
    → blocks_answer most bases reference file ≡ found ds end → FileFound bases reference file
unfolding flatten
blocks-found zero bases reference [] ds end bytes h e = record { blocks = []; well_formed = tt; joined = refl }
blocks-found zero bases reference (byte ∷ rest) ds end bytes h e = absurd (omega arith)
blocks-found (suc most) bases reference [] ds end bytes h e = record { blocks = []; well_formed = tt; joined = refl }
blocks-found (suc most) bases reference (byte ∷ tail) ds end bytes h e =
    let file : List ℕ = byte ∷ tail in
    let ih : (f : List ℕ) (more : List BlockDivision) (end : ℕ) → AllBytes f → length f ≤ most
    → blocks_answer most bases reference f ≡ found more end → FileFound bases reference f
    = λ f more end. blocks-found most bases reference f more end in
    and_then-parts (refused_as in_first (block_answer bases reference file)) (on_block most bases reference file)
    (sym (blocks_step most bases reference file (omega arith)) ∙ e) (λ divided next e₁ e₂.
    let first : FirstOf bases file next =
    first_of bases reference file divided next bytes (found-refused_as in_first (block_answer bases reference file) e₁) in
    and_then-parts (refused_as in_later (blocks_answer most bases reference (drop next file))) _ e₂ (λ more last e₃ e₄.
    let rest : FileFound bases reference (drop next file) =
    ih (drop next file) more last first.bytes (omega (arith, first.less))
    (found-refused_as in_later (blocks_answer most bases reference (drop next file)) e₃) in
    record {
      blocks = first.block ∷ rest.blocks;
      well_formed = (first.well_formed, rest.well_formed);
      joined = ap (λ (r : List ℕ). first.block ++ r) rest.joined ∙ sym first.begins;
    }))

-- Every number is at least `least`.
abbrev pub AtLeast : (least : ℕ) (refusal : BlockRefusal) → Type 0
AtLeast least refusal = least ≤ refusal.number

pub blocks-least : (least : ℕ) → least ≤ 2 → (most bases : ℕ) (reference file : List ℕ)
    → ((input : List ℕ) → Refuses (λ refusal. least ≤ refusal.number) (block_answer bases reference input))
    → Refuses (AtLeast least) (blocks_answer most bases reference file)
unfolding blocks_answer in_first in_later
blocks-least least small zero bases reference [] own = tt
blocks-least least small zero bases reference (byte ∷ bytes) own = small
blocks-least least small (suc most) bases reference [] own = tt
blocks-least least small (suc most) bases reference (byte ∷ bytes) own =
    let file : List ℕ = byte ∷ bytes in
    and_then-refuses (AtLeast least) (refused_as in_first (block_answer bases reference file)) (on_block most bases reference file)
    (refused_as-refuses (AtLeast least) in_first (block_answer bases reference file) (own file))
    (λ divided next e.
    and_then-refuses (AtLeast least) (refused_as in_later (blocks_answer most bases reference (drop next file))) _
    (refused_as-refuses (AtLeast least) in_later (blocks_answer most bases reference (drop next file))
    (blocks-least least small most bases reference (drop next file) own))
    (λ more end f. tt))

-- An outcome of 0 is an acceptance.
zero_file : (bases : ℕ) (reference file : List ℕ) (answer : Answer BlockRefusal (List BlockDivision)) → Refuses (AtLeast 1) answer
    → ((ds : List BlockDivision) (end : ℕ) → answer ≡ found ds end → FileFound bases reference file)
    → (file_outcome reference bases answer).number ≡ 0 → FileFound bases reference file
unfolding file_outcome
zero_file bases reference file (found ds end) own h e = h ds end refl
zero_file bases reference file (refused refusal) own h e = absurd (omega arith)

pub file-found : (bases : ℕ) (reference file : List ℕ) → ReferenceFits bases reference → AllBytes file → (validated bases reference file).number ≡ 0
    → FileFound bases reference file
unfolding validated file_answer
file-found bases reference file fits bytes e =
    let blocks : Answer BlockRefusal (List BlockDivision) = blocks_answer (length file) bases reference file in
    let same : file_answer bases reference file ≡ blocks = cond_no _ fits.fits refl in
    zero_file bases reference file blocks
    (blocks-least 1 (omega arith) (length file) bases reference file (λ input.
    refuses_too (OwnRefusal 1 21 (read_count (header_of input))) _ (block_answer bases reference input) (λ refusal o. least-own 1 (omega arith) o.number_own)
    (block-own bases reference input)))
    (λ ds end is. blocks-found (length file) bases reference file ds end bytes (omega arith) is)
    (ap (λ (a : Answer BlockRefusal (List BlockDivision)). (file_outcome reference bases a).number) (sym same) ∙ e)

-- The divisions that well-formed blocks have by being so.
pub own_divisions : (bases : ℕ) (blocks : List (List ℕ)) → AllWellFormed bases blocks
    → (ds : List BlockDivision) × DivideBlocks bases blocks ds
own_divisions bases [] wfs = ([], tt)
own_divisions bases (block ∷ blocks) wfs =
    let more = own_divisions bases blocks wfs.1 in
    (wfs.0.divided ∷ more.0, (wfs.0.divides, more.1))

-- ---- One list

-- Two well-formed blocks at the front of one list of bytes are the same.
pub first-same : (bases : ℕ) (one other rest more : List ℕ) → WellFormed bases one → WellFormed bases other → one ++ rest ≡ other ++ more
    → (one ≡ other) × (rest ≡ more)
first-same bases one other rest more wf wg e =
    let n : length one ≡ length other =
    sym (block-length bases one rest wf) ∙ ap (λ (f : List ℕ). block_length (header_of f)) e ∙ block-length bases other more wg in (
      sym (take_at one rest (length other) n) ∙ ap (take (length other)) e ∙ take_at other more (length other) refl,
      sym (drop_at one rest (length other) n) ∙ ap (drop (length other)) e ∙ drop_at other more (length other) refl,
    )

-- Blocks whose bytes begin those of others begin the others.
pub blocks-begin : (bases : ℕ) (bs cs : List (List ℕ)) (rest : List ℕ) → AllWellFormed bases bs → AllWellFormed bases cs
    → flatten bs ++ rest ≡ flatten cs → (more : List (List ℕ)) × (bs ++ more ≡ cs) × (flatten more ≡ rest)
unfolding flatten
blocks-begin bases [] cs rest wfs wgs e = (cs, refl, sym e)
blocks-begin bases (b ∷ bs) [] rest wfs wgs e =
    absurd (omega (arith, block-some bases b wfs.0, ap length e, length-append (b ++ flatten bs) rest, length-append b (flatten bs)))
blocks-begin bases (b ∷ bs) (c ∷ cs) rest wfs wgs e =
    let same = first-same bases b c (flatten bs ++ rest) (flatten cs) wfs.0 wgs.0 (sym (append_assoc b (flatten bs) rest) ∙ e) in
    let more = blocks-begin bases bs cs rest wfs.1 wgs.1 same.1 in
    (more.0, ap₂ ◌∷◌ same.0 more.1, more.2)

no_blocks : (bases : ℕ) (blocks : List (List ℕ)) → AllWellFormed bases blocks → flatten blocks ≡ [] → blocks ≡ []
unfolding flatten
no_blocks bases [] wfs e = refl
no_blocks bases (block ∷ blocks) wfs e =
    absurd (omega (arith, block-some bases block wfs.0, ap length e, length-append block (flatten blocks)))

-- The list of blocks that a file is joined from is unique.
pub one_list : (bases : ℕ) (bs cs : List (List ℕ)) → AllWellFormed bases bs → AllWellFormed bases cs → flatten bs ≡ flatten cs → bs ≡ cs
one_list bases bs cs wfs wgs e =
    let more = blocks-begin bases bs cs [] wfs wgs (append-nil (flatten bs) ∙ e) in
    let rest : more.0 ≡ [] =
    no_blocks bases more.0
    (all_right (WellFormed bases) bs more.0 (subst (λ (all : List (List ℕ)). AllWellFormed bases all) (sym more.1) wgs)) more.2 in
    sym (append-nil bs) ∙ ap (λ (r : List (List ℕ)). bs ++ r) (sym rest) ∙ more.1
