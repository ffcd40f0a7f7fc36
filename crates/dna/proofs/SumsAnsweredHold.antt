-- The walk answers every row of the table of sums, and every further row, by computation. Assumes
-- nothing.
use mathlib.Core.Path.{refl}
use lib.ListN.{drop}
use Rattle.base.specs.Lists.{All}
use Rattle.base.specs.Numbers.{le}
use Rattle.base.specs.Groups.{group_sizes}
use Rattle.base.specs.Packed.{symbols_at}
use Rattle.base.specs.Answer.{checked, and_then, refused_as}
use Rattle.dna.specs.Varint16At.{varint16_at, words_for}
use Rattle.dna.specs.Division.{with_n_byte_wrong}
use Rattle.dna.specs.RecordAt.{entry_of, entries_at, packed_at, perfect_at, global_at, left_place}
use Rattle.dna.specs.RecordAt.{local_at, flagged_at, judged_at, fields_at, offsets_at, n_list_at}
use Rattle.dna.specs.RecordAt.{record_at}
use Rattle.dna.specs.SizesAt.{words_at, stored_at, stored_sizes_at, size_group_at, size_groups_at}
use Rattle.dna.specs.SizesAt.{sizes_answer}
use Rattle.dna.specs.Walk.{last_position, reads_at, group_faults, group_at, groups_at, section_walk}
use Rattle.dna.specs.Sums.{rows}
use Rattle.dna.specs.SumsAnswered.{given_by, section_gives, RowAnswered, further_rows}
use Rattle.dna.specs.SumsAnswered.{FurtherRight, TableAnswered}
use Rattle.dna.proofs.SumsHold.{computed}

-- All that the walk computes with: to unfold this is to unfold each.
unfoldable pub walking : Unit {0}
unfolding computed le group_sizes symbols_at checked and_then refused_as varint16_at words_for
    entry_of entries_at packed_at perfect_at global_at left_place local_at flagged_at judged_at fields_at
    offsets_at n_list_at record_at
    words_at stored_at stored_sizes_at size_group_at size_groups_at sizes_answer
    with_n_byte_wrong last_position reads_at group_faults group_at groups_at section_walk
walking = tt

-- The starred sums of 01, and the further rows, are what the walk answers; a refl for each row.
pub table-answered : TableAnswered
unfolding walking given_by section_gives further_rows
table-answered =
    let after-7 : All RowAnswered (drop 7 rows) =
    (refl, (refl, (refl, (refl, (refl, (refl, (refl, tt))))))) in
    let starred : All RowAnswered rows =
    (refl, (refl, (refl, (refl, (refl, (refl, (refl, after-7))))))) in
    let after-20 : All FurtherRight (drop 20 further_rows) =
    (refl, (refl, (refl, (refl, (refl, (refl, (refl, tt))))))) in
    let after-10 : All FurtherRight (drop 10 further_rows) =
    (refl, (refl, (refl, (refl, (refl, (refl, (refl, (refl, (refl, (refl, after-20)))))))))) in
    let further : All FurtherRight further_rows =
    (refl, (refl, (refl, (refl, (refl, (refl, (refl, (refl, (refl, (refl, after-10)))))))))) in
    (starred, further, λ context stored. refl)
