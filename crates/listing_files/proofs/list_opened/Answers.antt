-- `listing_files::list_opened` is safe: the reference file has its 8 bytes of G. Assumes nothing.
use mathlib.Core.Path.{sym, ◌∙◌}
use native.Mathlib.Omega.{arith}
use Rattle.listing_files.proofs.ReferenceLaws.{reference-long}
use Rattle.listing_files.proofs.list_opened.Goals as goal

pub u64_at-requires : goal.u64_at-requires
u64_at-requires g c =
    reference-long c.args.reference.now (sym c.reference_refused.ensures ∙ c.if-reference_refused.false)

pub slice_bounds-list_blocks-count : goal.slice_bounds-list_blocks-count
slice_bounds-list_blocks-count g c =
    reference-long c.args.reference.now (sym c.reference_refused.ensures ∙ c.if-reference_refused.false)

pub slice_bounds-list_blocks-start : goal.slice_bounds-list_blocks-start
slice_bounds-list_blocks-start g c =
    omega (arith, reference-long c.args.reference.now (sym c.reference_refused.ensures ∙ c.if-reference_refused.false))
