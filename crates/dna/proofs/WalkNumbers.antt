-- The walk refuses with its own numbers, 11 to 20, and names a read of the block. Assumes nothing.
use mathlib.Core.Path.{◌≡◌, ap, ◌∙◌, subst}
use Prim.Native.Nat.{ℕ, zero, suc, ◌+◌, ◌≤◌, ◌<◌}
use native.Mathlib.Omega.{arith}
use mathlib.Core.Bool.{cond}
use mathlib.Core.List.{List, [], ◌∷◌, map}
use lib.ListN.{length, get_or, drop}
use lib.Dec.{eqb}
use Rattle.base.specs.Lists.{All, total}
use Rattle.base.specs.Groups.{in_groups}
use Rattle.base.specs.Numbers.{le}
use Rattle.base.specs.Answer.{found, refused_as}
use Rattle.base.proofs.AnswerLaws.{Refuses, checked-refuses, and_then-refuses, cond-refuses}
use Rattle.base.proofs.AnswerLaws.{refused_as-refuses, refuses_too}
use Rattle.base.proofs.GroupLaws.{in_groups-some, sizes-in_groups, total-group_sizes}
use Rattle.dna.specs.Record.{ReadContext, RecordFields, has_n_list}
use Rattle.dna.specs.Alignment.{position_after}
use Rattle.dna.specs.RecordFaults.{field_faults}
use Rattle.dna.specs.Division.{GroupFlags, flags_at, context_of, group_slots}
use Rattle.dna.specs.Varint16At.{varint16_at, words_for}
use Rattle.dna.specs.RecordAt.{perfect_at, flagged_at, judged_at, fields_at, offsets_at, n_list_at}
use Rattle.dna.specs.RecordAt.{record_at}
use Rattle.dna.specs.Walk.{ReadRefusal, of_read, Walk, last_position, reads_at, group_faults}
use Rattle.dna.specs.Walk.{group_at, groups_at, section_walk}

-- One of the numbers 11 to 20.
pub record Own (number : ℕ) : Type 0 where
  pub least : 11 ≤ number
  pub most : number ≤ 20

own : (number : ℕ) → 11 ≤ number → number ≤ 20 → Own number
own number least most = record { least = least; most = most }

-- ---- A record

varint16-own : (words bound place : ℕ) (list : List ℕ) (at : ℕ) → Refuses Own (varint16_at words bound place list at)
unfolding varint16_at
varint16-own zero bound place list at = own 20 (omega arith) (omega arith)
varint16-own (suc words) bound place list at =
    checked-refuses Own (λ n. n) _ _ (own 12 (omega arith) (omega arith), (own 20 (omega arith) (omega arith), (own 20 (omega arith) (omega arith), tt)))
    (cond-refuses Own (eqb (le 2 list at) 32768) _ _
    (and_then-refuses Own (varint16_at words bound (place + le 2 list at) list (at + 2)) _ (varint16-own words bound (place + le 2 list at) list (at + 2)) (λ more next e. tt))
    tt)

offsets-own : (count bound least place : ℕ) (list : List ℕ) (at : ℕ) → Refuses Own (offsets_at count bound least place list at)
unfolding offsets_at
offsets-own zero bound least place list at = tt
offsets-own (suc count) bound least place list at =
    and_then-refuses Own (varint16_at (words_for bound) bound place list at) _ (varint16-own (words_for bound) bound place list at)
    (λ offset next e.
    checked-refuses Own (λ n. n) _ _ (own 20 (omega arith) (omega arith), tt)
    (and_then-refuses Own (offsets_at count bound 1 (place + offset) list next) _ (offsets-own count bound 1 (place + offset) list next) (λ offsets end e. tt)))

n_list-own : (context : ReadContext) (list : List ℕ) (at : ℕ) → Refuses Own (n_list_at context.read_length list at)
unfolding n_list_at
n_list-own context list at =
    checked-refuses Own (λ n. n) _ _ (own 12 (omega arith) (omega arith), (own 20 (omega arith) (omega arith), tt))
    (offsets-own (get_or list at 0) context.read_length 0 0 list (at + 1))

judged-own : (context : ReadContext) (list : List ℕ) (at : ℕ) (fields : RecordFields) → Refuses Own (judged_at context list at fields)
unfolding judged_at field_faults
judged-own context list at fields =
    checked-refuses Own (λ n. n) _ _ (
      own 12 (omega arith) (omega arith),
      (
        own 13 (omega arith) (omega arith),
        (
          own 16 (omega arith) (omega arith),
          (
            own 15 (omega arith) (omega arith),
            (
              own 17 (omega arith) (omega arith),
              (
                own 18 (omega arith) (omega arith),
                (
                  own 19 (omega arith) (omega arith),
                  (own 20 (omega arith) (omega arith), tt),
                ),
              ),
            ),
          ),
        ),
      ),
    )
    tt

fields-own : (context : ReadContext) (list : List ℕ) (at : ℕ) → Refuses Own (fields_at context list at)
unfolding fields_at
fields-own context list at =
    cond-refuses Own context.perfect_bit _ _ (judged-own context list at (perfect_at context list at))
    (checked-refuses Own (λ n. n) _ _ (own 12 (omega arith) (omega arith), (own 14 (omega arith) (omega arith), tt))
    (judged-own context list at (flagged_at context list at (get_or list at 0))))

record-own : (context : ReadContext) (list : List ℕ) (at : ℕ) → Refuses Own (record_at context list at)
unfolding record_at
record-own context list at =
    and_then-refuses Own (fields_at context list at) _ (fields-own context list at)
    (λ fields next e.
    and_then-refuses Own (cond (has_n_list context fields) (n_list_at context.read_length list next) (found [] next)) _
    (cond-refuses Own (has_n_list context fields) _ _ (n_list-own context list next) tt) (λ offsets end e. tt))

-- ---- A walk

-- One of them, at one of `count` reads from `first` on.
pub record OwnAt (first count : ℕ) (refusal : ReadRefusal) : Type 0 where
  pub number : Own refusal.number
  pub from : first ≤ refusal.read
  pub below : refusal.read < first + count

-- One of fewer reads is one of more.
wider : {A : Type 0} (one some first count : ℕ) (walk : Walk A) → first ≤ one → one + some ≤ first + count
    → Refuses (OwnAt one some) walk → Refuses (OwnAt first count) walk
wider one some first count walk low high w =
    refuses_too (OwnAt one some) (OwnAt first count) walk
    (λ refusal h. record { number = h.number; from = omega arith; below = omega arith }) w

-- A number at the first of some reads.
here : (read count number : ℕ) → 0 < count → Own number → OwnAt read count (of_read read number)
here read count number some h = record { number = h; from = omega arith; below = omega arith }

reads-own : (bases : ℕ) (flags : GroupFlags) (read place previous : ℕ) (lengths list : List ℕ) (at : ℕ)
    → Refuses (OwnAt read (length lengths)) (reads_at bases flags read place previous lengths list at)
unfolding reads_at
reads-own bases flags read place previous [] list at = tt
reads-own bases flags read place previous (read_length ∷ lengths) list at =
    let context : ReadContext = context_of bases flags place previous read_length in
    let such : ReadRefusal → Type 0 = OwnAt read (suc (length lengths)) in
    let ih : (p m : ℕ) → Refuses (OwnAt (suc read) (length lengths)) (reads_at bases flags (suc read) (suc place) p lengths list m)
    = λ p m. reads-own bases flags (suc read) (suc place) p lengths list m in
    and_then-refuses such (refused_as (of_read read) (record_at context list at)) _
    (refused_as-refuses such (of_read read) (record_at context list at)
    (refuses_too Own (λ number. such (of_read read number)) (record_at context list at)
    (λ number h. here read (suc (length lengths)) number (omega arith) h) (record-own context list at)))
    (λ stored next e.
    let p : ℕ = position_after context stored.fields in
    and_then-refuses such (reads_at bases flags (suc read) (suc place) p lengths list next) _
    (wider (suc read) (length lengths) read (suc (length lengths))
    (reads_at bases flags (suc read) (suc place) p lengths list next) (omega arith) (omega arith) (ih p next)) (λ pieces end f. tt))

group-own : (bases read previous : ℕ) (lengths : List ℕ) (n_byte : ℕ) (list : List ℕ) (at : ℕ) → 0 < length lengths
    → Refuses (OwnAt read (length lengths)) (group_at bases read previous lengths n_byte list at)
unfolding group_at group_faults
group-own bases read previous lengths n_byte list at some =
    let such : ReadRefusal → Type 0 = OwnAt read (length lengths) in
    checked-refuses such (of_read read) _ _ (
      here read (length lengths) 12 some (own 12 (omega arith) (omega arith)),
      (here read (length lengths) 13 some (own 13 (omega arith) (omega arith)), (here read (length lengths) 11 some (own 11 (omega arith) (omega arith)), tt)),
    )
    (and_then-refuses such (reads_at bases (flags_at list at) read 0 previous lengths list (at + 4)) _
    (reads-own bases (flags_at list at) read 0 previous lengths list (at + 4)) (λ pieces next e. tt))

groups-own : (bases read previous : ℕ) (lengths : List (List ℕ)) (n_section list : List ℕ) (at : ℕ) → All (λ ours. 0 < length ours) lengths
    → Refuses (OwnAt read (total (map length lengths))) (groups_at bases read previous lengths n_section list at)
unfolding groups_at total
groups-own bases read previous [] n_section list at some = tt
groups-own bases read previous (ours ∷ lengths) n_section list at some =
    let rest : ℕ = total (map length lengths) in
    let such : ReadRefusal → Type 0 = OwnAt read (length ours + rest) in
    let ih : (p m : ℕ) → Refuses (OwnAt (read + length ours) rest) (groups_at bases (read + length ours) p lengths (drop 1 n_section) list m)
    = λ p m. groups-own bases (read + length ours) p lengths (drop 1 n_section) list m some.1 in
    and_then-refuses such (group_at bases read previous ours (get_or n_section 0 0) list at) _
    (wider read (length ours) read (length ours + rest) (group_at bases read previous ours (get_or n_section 0 0) list at) (omega arith) (omega arith)
    (group-own bases read previous ours (get_or n_section 0 0) list at some.0))
    (λ group next e.
    let p : ℕ = last_position bases previous (group_slots group.flags 0 ours group.pieces) in
    and_then-refuses such (groups_at bases (read + length ours) p lengths (drop 1 n_section) list next) _
    (wider (read + length ours) rest read (length ours + rest)
    (groups_at bases (read + length ours) p lengths (drop 1 n_section) list next) (omega arith) (omega arith) (ih p next)) (λ division end f. tt))

-- The walk over a DNA section stops with one of 11 to 20, at a read of the block.
pub walk-own : (bases : ℕ) (lengths n_section dna : List ℕ)
    → Refuses (OwnAt 0 (length lengths)) (section_walk bases lengths n_section dna)
unfolding section_walk
walk-own bases lengths n_section dna =
    let all : total (map length (in_groups lengths)) ≡ length lengths = ap total (sizes-in_groups lengths) ∙ total-group_sizes (length lengths) in
    subst (λ (count : ℕ). Refuses (OwnAt 0 count) (groups_at bases 0 0 (in_groups lengths) n_section dna 0)) all
    (groups-own bases 0 0 (in_groups lengths) n_section dna 0 (in_groups-some lengths))
