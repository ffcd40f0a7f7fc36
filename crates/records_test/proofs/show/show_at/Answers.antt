-- `records_test::show::show_at` is safe: what is decoded can be printed. Assumes nothing.
use Rattle.std.proofs.Common.{ap, ◌≤◌, [], ◌∷◌, arith}
use Rattle.dna.specs.Refused.{numbered}
use Rattle.records.specs.Decoded.{context_from}
use Rattle.records_test.proofs.FoundLaws.{found-printable, reference_fits}
use Rattle.records_test.proofs.show.show_at.Goals as goal

pub put_found-requires : goal.put_found-requires
unfolding numbered
put_found-requires g c =
    let a = c.args in
    let small : a.size ≤ 16 = omega arith in (
      found-printable (context_from a.bits a.size _ _) (0x1b ∷ 0x1b ∷ 0xe4 ∷ [])
          a.section.now a.at
          (record { each = λ k h. omega (arith, c.type_inv.section k) })
          reference_fits (omega (arith, small)) _ _ c.decode_record.ensures
          (ap numbered c.in-Ok.is),
      small,
    )
