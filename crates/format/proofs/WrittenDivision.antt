-- The division that the fixed rule writes meets the rules, and its reads are the rule's records. Assumes nothing.
use mathlib.Core.Path.{◌≡◌, refl, sym, ap, ap₂, ◌∙◌, subst}
use Prim.Native.Nat.{ℕ, suc, ◌≤◌}
use mathlib.Core.Bool.{Bool, false}
use mathlib.Core.List.{List, [], ◌∷◌, ◌++◌, map, flatten}
use lib.ListN.{length, length-map}
use Rattle.base.specs.Lists.{All}
use Rattle.base.specs.Groups.{in_groups, byte_bit_stray}
use Rattle.base.proofs.GroupLaws.{in_groups-map, in_groups-small, flatten-in_groups}
use Rattle.base.proofs.FlagByteLaws.{BitsAre, flag-bits, flag-clear}
use Rattle.base.proofs.Tests.{neither_or}
use Rattle.dna.specs.Record.{ReadContext, record_bytes}
use Rattle.dna.specs.Alignment.{position_after}
use Rattle.dna.specs.Division.{GroupFlags, Piece, Slot, Read, division_bytes, context_of, group_slots}
use Rattle.dna.specs.Division.{slots, reads_from, reads_of, group_bit_stray, ReadMeets, GroupsMeet}
use Rattle.dna.specs.Division.{Divides}
use Rattle.format.specs.RuleRecord.{Candidate, Choice, choose_raw4, choose_aligned, choose_raw}
use Rattle.format.specs.RuleRecord.{choice_for, Written, written_as, written}
use Rattle.format.specs.RuleBlock.{written_from, written_group, written_division}
use Rattle.format.specs.RuleBlock.{written_n_section}
use Rattle.base.specs.Groups.{flag_byte}
use Rattle.format.proofs.WrittenRecord.{Meets}

-- A written record as a read of a division.
unfoldable pub piece_of : (w : Written) → Piece
piece_of w = record { bytes = record_bytes w.context w.stored; stored = w.stored }

unfoldable pub as_read : (w : Written) → Read
as_read w = record { context = w.context; piece = piece_of w }

length_of : (w : Written) → ℕ
length_of w = w.context.read_length

-- ---- The position that each record steps from

abbrev pub Threads : (bases previous : ℕ) (ws : List Written) → Type 0
Threads bases previous [] = Unit {0}
Threads bases previous (w ∷ ws) =
    (w.context.reference_bases ≡ bases)
    × (w.context.previous_position ≡ previous)
    × Threads bases (position_after w.context w.stored.fields) ws

as-bases : (choice : Choice) (bases : ℕ) (reference : List ℕ) (previous : ℕ) (codes : List ℕ) (candidate : Candidate)
    → ((written_as choice bases reference previous codes candidate).context.reference_bases ≡ bases)
    × ((written_as choice bases reference previous codes candidate).context.previous_position ≡ previous)
unfolding written_as
as-bases choose_raw4 bases reference previous codes candidate = (refl, refl)
as-bases choose_aligned bases reference previous codes candidate = (refl, refl)
as-bases choose_raw bases reference previous codes candidate = (refl, refl)

pub threads-written : (bases : ℕ) (reference : List ℕ) (previous : ℕ) (reads : List (List ℕ)) (candidates : List Candidate)
    → Threads bases previous (written_from bases reference previous reads candidates)
unfolding written_from written
threads-written bases reference previous [] candidates = tt
threads-written bases reference previous (codes ∷ reads) [] = tt
threads-written bases reference previous (codes ∷ reads) (candidate ∷ candidates) =
    let same = as-bases (choice_for bases reference codes candidate) bases reference previous codes candidate in (
      same.0,
      same.1,
      threads-written bases reference (position_after (written bases reference previous codes candidate).context
          (written bases reference previous codes candidate).stored.fields) reads candidates,
    )

-- The position after some records.
unfoldable thread_end : (previous : ℕ) (ws : List Written) → ℕ
thread_end previous [] = previous
thread_end previous (w ∷ ws) = thread_end (position_after w.context w.stored.fields) ws

threads-left : (bases previous : ℕ) (ws rest : List Written) → Threads bases previous (ws ++ rest) → Threads bases previous ws
threads-left bases previous [] rest h = tt
threads-left bases previous (w ∷ ws) rest h = (h.0, h.1, threads-left bases (position_after w.context w.stored.fields) ws rest h.2)

threads-right : (bases previous : ℕ) (ws rest : List Written) → Threads bases previous (ws ++ rest) → Threads bases (thread_end previous ws) rest
unfolding thread_end
threads-right bases previous [] rest h = h
threads-right bases previous (w ∷ ws) rest h = threads-right bases (position_after w.context w.stored.fields) ws rest h.2

-- ---- The bits of a group

record FlagsMatch (flags : GroupFlags) (place : ℕ) (ws : List Written) : Type 0 where
  perfect : BitsAre (λ w. w.context.perfect_bit) flags.perfect place ws
  forward : BitsAre (λ w. w.context.forward) flags.forward place ws
  with_n : BitsAre (λ w. w.context.with_n) flags.with_n place ws
  incremental : BitsAre (λ w. w.context.incremental) flags.incremental place ws

-- ---- The reads of a group, and of all

group_reads : (bases : ℕ) (flags : GroupFlags) (place previous : ℕ) (ws : List Written) (rest : List Slot) → FlagsMatch flags place ws
    → Threads bases previous ws
    → reads_from bases previous (group_slots flags place (map length_of ws) (map piece_of ws) ++ rest)
    ≡ map as_read ws ++ reads_from bases (thread_end previous ws) rest
unfolding group_slots reads_from thread_end as_read context_of length_of piece_of
group_reads bases flags place previous [] rest f t = refl
group_reads bases flags place previous (w ∷ ws) rest f t =
    let context : ReadContext = context_of bases flags place previous w.context.read_length in
    let same : context ≡ w.context =
    λ i.
    record {
      read_length = w.context.read_length;
      reference_bases = sym t.0 i;
      previous_position = sym t.1 i;
      perfect_bit = f.perfect.0 i;
      forward = f.forward.0 i;
      with_n = f.with_n.0 i;
      incremental = f.incremental.0 i;
    } in
    ap (λ (c : ReadContext).
    record { context = c; piece = piece_of w }
    ∷ reads_from bases (position_after c w.stored.fields) (group_slots flags (suc place) (map length_of ws) (map piece_of ws) ++ rest)) same
    ∙ ap (λ (more : List Read). as_read w ∷ more)
    (group_reads bases flags (suc place) (position_after w.context w.stored.fields) ws rest
    (record {
      perfect = f.perfect.1;
      forward = f.forward.1;
      with_n = f.with_n.1;
      incremental = f.incremental.1;
    }) t.2)

map-append : {A B : Type 0} (f : A → B) (xs ys : List A) → map f (xs ++ ys) ≡ map f xs ++ map f ys
map-append f [] ys = refl
map-append f (x ∷ xs) ys = ap (λ (rest : List _). f x ∷ rest) (map-append f xs ys)

groups-reads : (bases previous : ℕ) (groups : List (List Written)) → All (λ ws. length ws ≤ 8) groups → Threads bases previous (flatten groups)
    → reads_from bases previous (slots (map (map length_of) groups) (map written_group groups)) ≡ map as_read (flatten groups)
unfolding slots reads_from flatten written_group piece_of
groups-reads bases previous [] small t = refl
groups-reads bases previous (ws ∷ groups) small t =
    let rest : List Slot = slots (map (map length_of) groups) (map written_group groups) in
    group_reads bases (written_group ws).flags 0 previous ws rest
    (record {
      perfect = flag-bits (λ w. w.context.perfect_bit) ws small.0;
      forward = flag-bits (λ w. w.context.forward) ws small.0;
      with_n = flag-bits (λ w. w.context.with_n) ws small.0;
      incremental = flag-bits (λ w. w.context.incremental) ws small.0;
    }) (threads-left bases previous ws (flatten groups) t)
    ∙ ap (λ (more : List Read). map as_read ws ++ more)
    (groups-reads bases (thread_end previous ws) groups small.1 (threads-right bases previous ws (flatten groups) t))
    ∙ sym (map-append as_read ws (flatten groups))

groups-meet : (groups : List (List Written)) → GroupsMeet (map (map length_of) groups) (written_n_section (map written_group groups)) (map written_group groups)
unfolding written_n_section written_group group_bit_stray piece_of
groups-meet [] = tt
groups-meet (ws ∷ groups) =
    let stray : (test : Written → Bool) → byte_bit_stray (length (map length_of ws)) (flag_byte test ws) ≡ false
    = λ test. ap (λ (n : ℕ). byte_bit_stray n (flag_byte test ws)) (length-map ws length_of) ∙ flag-clear test ws in (
      record {
        reads = length-map ws piece_of ∙ sym (length-map ws length_of);
        no_stray_bit =
            neither_or _ _ (stray (λ w. w.context.perfect_bit))
            (neither_or _ _ (stray (λ w. w.context.forward))
            (neither_or _ _ (stray (λ w. w.context.with_n)) (stray (λ w. w.context.incremental))));
        with_n = refl;
      },
      groups-meet groups,
    )

-- Every record of a list meets the rules, for the codes of its read.
abbrev pub AllMeet : (reference : List ℕ) (reads : List (List ℕ)) (ws : List Written) → Type 0
AllMeet reference [] [] = Unit {0}
AllMeet reference [] (w ∷ ws) = ⊥
AllMeet reference (codes ∷ reads) [] = ⊥
AllMeet reference (codes ∷ reads) (w ∷ ws) = Meets reference codes w × AllMeet reference reads ws

reads-meet : (reference : List ℕ) (reads : List (List ℕ)) (ws : List Written) → AllMeet reference reads ws → All ReadMeets (map as_read ws)
unfolding as_read piece_of
reads-meet reference [] [] h = tt
reads-meet reference [] (w ∷ ws) h = absurd h
reads-meet reference (codes ∷ reads) [] h = absurd h
reads-meet reference (codes ∷ reads) (w ∷ ws) h =
    (record { bytes = refl; fits = h.0.fits; no_fault = h.0.none }, reads-meet reference reads ws h.1)

lengths-meet : (reference : List ℕ) (reads : List (List ℕ)) (ws : List Written) → AllMeet reference reads ws → map length reads ≡ map length_of ws
unfolding length_of
lengths-meet reference [] [] h = refl
lengths-meet reference [] (w ∷ ws) h = absurd h
lengths-meet reference (codes ∷ reads) [] h = absurd h
lengths-meet reference (codes ∷ reads) (w ∷ ws) h = ap₂ ◌∷◌ (sym h.0.read_length) (lengths-meet reference reads ws h.1)

-- The reads of the division are the rule's records.
pub written-reads : (bases : ℕ) (reference : List ℕ) (reads : List (List ℕ)) (candidates : List Candidate)
    → AllMeet reference reads (written_from bases reference 0 reads candidates)
    → reads_of bases (map length reads) (written_division bases reference reads candidates)
    ≡ map as_read (written_from bases reference 0 reads candidates)
unfolding reads_of written_division
written-reads bases reference reads candidates meet =
    let ws : List Written = written_from bases reference 0 reads candidates in
    let groups : in_groups (map length reads) ≡ map (map length_of) (in_groups ws) =
    ap in_groups (lengths-meet reference reads ws meet) ∙ in_groups-map length_of ws in
    ap (λ (ls : List (List ℕ)). reads_from bases 0 (slots ls (map written_group (in_groups ws)))) groups
    ∙ groups-reads bases 0 (in_groups ws) (in_groups-small ws)
    (subst (λ (all : List Written). Threads bases 0 all) (sym (flatten-in_groups ws)) (threads-written bases reference 0 reads candidates))
    ∙ ap (map as_read) (flatten-in_groups ws)

-- The division meets the rules.
pub written-divides : (bases : ℕ) (reference : List ℕ) (reads : List (List ℕ)) (candidates : List Candidate)
    → AllMeet reference reads (written_from bases reference 0 reads candidates)
    → Divides bases (map length reads) (written_n_section (written_division bases reference reads candidates))
    (division_bytes (written_division bases reference reads candidates)) (written_division bases reference reads candidates)
unfolding written_division
written-divides bases reference reads candidates meet =
    let ws : List Written = written_from bases reference 0 reads candidates in
    let groups : in_groups (map length reads) ≡ map (map length_of) (in_groups ws) =
    ap in_groups (lengths-meet reference reads ws meet) ∙ in_groups-map length_of ws in
    record {
      bytes = refl;
      groups =
          subst (λ (ls : List (List ℕ)). GroupsMeet ls (written_n_section (map written_group (in_groups ws))) (map written_group (in_groups ws)))
          (sym groups) (groups-meet (in_groups ws));
      records =
          subst (λ (rs : List Read). All ReadMeets rs) (sym (written-reads bases reference reads candidates meet))
          (reads-meet reference reads ws meet);
    }
