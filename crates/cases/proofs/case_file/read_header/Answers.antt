-- `cases::case_file::read_header` meets its contract, field by field. Assumes nothing.
use native.Mathlib.Omega.{arith}
use lib.ListN.{get_or}
use Rattle.cases.specs.CaseFile.{case_fields}
use Rattle.cases.proofs.case_file.read_header.Goals as goal

pub u32_at-requires-17 : goal.u32_at-requires-17
u32_at-requires-17 c =
    omega (arith, c.requires)

pub u32_at-requires-18 : goal.u32_at-requires-18
u32_at-requires-18 c =
    omega (arith, c.requires)

pub returns : goal.returns
unfolding case_fields
returns c =
    let bytes = c.args.bytes.now in
    λ i.
    record {
      length = c.u32_at.ensures i;
      kind = get_or bytes 4 0;
      label = get_or bytes 5 0;
      bases = c.u64_at.ensures i;
      b_id = c.u64_at-2.ensures i;
      c_time = c.u64_at-3.ensures i;
      reference = c.u32_at-2.ensures i;
      input = c.u32_at-3.ensures i;
      letters = c.u32_at-4.ensures i;
      ends = c.u32_at-5.ensures i;
      stored = c.u32_at-6.ensures i;
      positions = c.u32_at-7.ensures i;
      strands = c.u32_at-8.ensures i;
      lefts = c.u32_at-9.ensures i;
      rights = c.u32_at-10.ensures i;
      letters_lent = c.u32_at-11.ensures i;
      ends_lent = c.u32_at-12.ensures i;
      block_lent = c.u32_at-13.ensures i;
      names = c.u32_at-14.ensures i;
      name_ends = c.u32_at-15.ensures i;
      names_stored = c.u32_at-16.ensures i;
      names_lent = c.u32_at-17.ensures i;
      name_ends_lent = c.u32_at-18.ensures i;
    }
