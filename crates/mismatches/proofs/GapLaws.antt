-- The entries of one gap, written into a list: its fillers and then the difference. Assumes
-- nothing.
use mathlib.Core.Path.{◌≡◌, sym, ap, ◌∙◌}
use Prim.Native.Nat.{ℕ, suc, ◌+◌, ◌-◌, ◌*◌, ◌<◌}
use native.Mathlib.Omega.{arith}
use mathlib.Core.List.{List, [], ◌∷◌, ◌++◌, map, map-append}
use lib.ListN.{length, set, length-append, length-map}
use Rattle.base.specs.Lists.{build}
use Rattle.base.specs.Paste.{pasted}
use Rattle.base.proofs.ListLaws.{length-build, build-snoc}
use Rattle.base.proofs.PasteLaws.{pasted_nil, pasted_snoc}
use Rattle.dna.specs.Record.{max_entry_offset, entry_byte}
use Rattle.format.specs.RuleEntries.{filler_count, gap_entries}
use Rattle.mismatches.specs.Entries.{fillers_from}

-- ---- Fillers

module _ (expected : ℕ → ℕ) (place : ℕ) where
  length_fillers : (count : ℕ) → length (map entry_byte (fillers_from expected place count)) ≡ count
  unfolding fillers_from
  length_fillers count =
      length-map (fillers_from expected place count) entry_byte ∙ length-build count _

  module _ (buffer : List ℕ) (at : ℕ) where
    pub fillers_none : buffer ≡ pasted buffer at (map entry_byte (fillers_from expected place 0))
    unfolding fillers_from build
    fillers_none = sym (pasted_nil buffer at)

    -- One filler more.
    pub fillers_turn : (out : List ℕ) (k there code byte : ℕ) → at + k < length buffer
        → out ≡ pasted buffer at (map entry_byte (fillers_from expected place k))
        → there ≡ place + max_entry_offset * (k + 1) → code ≡ expected there
        → byte ≡ entry_byte (record { offset = max_entry_offset; code = code })
        → set out (at + k) byte
        ≡ pasted buffer at (map entry_byte (fillers_from expected place (k + 1)))
    unfolding fillers_from
    fillers_turn out k there code byte room e where' given is =
        let part : List ℕ = map entry_byte (fillers_from expected place k) in
        let size : length part ≡ k = length_fillers k in
        let more : there ≡ place + max_entry_offset * suc k = omega arith in
        pasted_snoc buffer out at (at + k) part byte (omega arith) (omega arith) e
        ∙ ap (pasted buffer at)
        (ap (λ (x : ℕ). part ++ (x ∷ []))
        (is
        ∙ ap (λ (x : ℕ). entry_byte (record { offset = max_entry_offset; code = x }))
        (given ∙ ap expected more))
        ∙ sym (map-append entry_byte (fillers_from expected place k) _)
        ∙ ap (map entry_byte)
        (sym
        (build-snoc k
        (λ j.
        record { offset = max_entry_offset; code = expected (place + max_entry_offset * suc j) }))))

  -- ---- A gap

  module _ (gap code fillers : ℕ) (are : fillers ≡ filler_count gap) where
    -- Its fillers, and the difference.
    gap-entries : gap_entries expected place (record { gap = gap; code = code })
        ≡ fillers_from expected place fillers
        ++ (record { offset = gap - max_entry_offset * fillers; code = code } ∷ [])
    unfolding gap_entries fillers_from
    gap-entries =
        ap
        (λ (n : ℕ). fillers_from expected place n
        ++ (record { offset = gap - max_entry_offset * n; code = code } ∷ []))
        (sym are)

    pub length_gap : length (gap_entries expected place (record { gap = gap; code = code }))
        ≡ fillers + 1
    length_gap =
        ap length gap-entries
        ∙ length-append (fillers_from expected place fillers) _
        ∙ ap (λ (n : ℕ). n + 1)
        (sym (length-map (fillers_from expected place fillers) entry_byte) ∙ length_fillers fillers)

    pub gap_written : (buffer out : List ℕ) (at byte : ℕ) → at + fillers < length buffer
        → out ≡ pasted buffer at (map entry_byte (fillers_from expected place fillers))
        → byte ≡ entry_byte (record { offset = gap - max_entry_offset * fillers; code = code })
        → set out (at + fillers) byte
        ≡ pasted buffer at
        (map entry_byte (gap_entries expected place (record { gap = gap; code = code })))
    gap_written buffer out at byte room e is =
        let part : List ℕ = map entry_byte (fillers_from expected place fillers) in
        let size : length part ≡ fillers = length_fillers fillers in
        pasted_snoc buffer out at (at + fillers) part byte (omega arith) (omega arith) e
        ∙ ap (pasted buffer at)
        (ap (λ (x : ℕ). part ++ (x ∷ [])) is
        ∙ sym (map-append entry_byte (fillers_from expected place fillers) _)
        ∙ ap (map entry_byte) (sym gap-entries))
