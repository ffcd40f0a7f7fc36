-- The writer's fixed rule, the entries of a read at a place (01, The writer's fixed rule: a gap of
-- d above 63 gets fillers at steps of 63 until 63 or less remains).
use Rattle.std.specs.Prelude.{ℕ, suc, ◌+◌, ◌-◌, ◌*◌, ◌/◌, Bool, not, ◌&&◌, List, [], ◌∷◌, ◌++◌, length, get_or, eqb}
use Rattle.base.specs.Lists.{build, places_where}
use Rattle.dna.specs.Reference.{code_n}
use Rattle.dna.specs.Record.{max_entry_offset, Entry}

-- A difference of the aligned part: its gap from the one before (the first from the first aligned
-- letter), and the read's code there.
pub record Gap : Type 0 where
  pub gap : ℕ
  pub code : ℕ

-- How many fillers a gap of d gets (02, Ticket 3): (d + 62) / 63, rounded down, less 1; none where
-- d is 0, since the subtraction stops at 0.
unfoldable pub filler_count : (gap : ℕ) → ℕ
filler_count gap = (gap + 62) / 63 - 1

-- The entries of one gap from `place` on: its fillers, each with what the reference gives there,
-- and the difference itself.
unfoldable pub gap_entries : (expected : ℕ → ℕ) (place : ℕ) (gap : Gap) → List Entry
gap_entries expected place gap =
    build (filler_count gap.gap)
    (λ j. record { offset = max_entry_offset; code = expected (place + max_entry_offset * suc j) })
    ++ (record {
      offset = gap.gap - max_entry_offset * filler_count gap.gap;
      code = gap.code;
    } ∷ [])

-- The entries of a list of gaps, gap by gap.
unfoldable pub entries_of_gaps : (expected : ℕ → ℕ) (place : ℕ) (gaps : List Gap) → List Entry
entries_of_gaps expected place [] = []
entries_of_gaps expected place (gap ∷ gaps) =
    gap_entries expected place gap ++ entries_of_gaps expected (place + gap.gap) gaps

-- Whether aligned letter k differs from what the reference gives; letters under N are not compared.
unfoldable pub differs_at : (expected : ℕ → ℕ) (codes : List ℕ) (k : ℕ) → Bool
differs_at expected codes k =
    not (eqb (get_or codes k 0) code_n) && not (eqb (get_or codes k 0) (expected k))

-- The gaps to some places, the first from `previous`, with the read's code at each.
unfoldable pub gaps_to : (codes : List ℕ) (previous : ℕ) (places : List ℕ) → List Gap
gaps_to codes previous [] = []
gaps_to codes previous (place ∷ places) =
    record { gap = place - previous; code = get_or codes place 0 } ∷ gaps_to codes place places

-- The gaps of a read's aligned codes: from difference to difference, over letters under N.
unfoldable pub gaps_of : (expected : ℕ → ℕ) (codes : List ℕ) → List Gap
gaps_of expected codes = gaps_to codes 0 (places_where (differs_at expected codes) (length codes))
