-- `encoder::layout::BlockLengths::varying_fields` meets its contract, field by field. Assumes nothing.
use mathlib.Core.Path.{◌≡◌, sym, ap, ◌∙◌}
use Prim.Native.Nat.{ℕ, ◌+◌, ◌/◌, ◌%◌, min}
use mathlib.Core.Bool.{Bool, cond}
use mathlib.Core.List.{List}
use lib.ListN.{length, get_or}
use native.Mathlib.Omega.{arith}
use Rattle.base.specs.Lists.{steps_from}
use Rattle.base.specs.Groups.{group_count}
use Rattle.base.proofs.StepsLaws.{length-steps_from}
use Rattle.format.specs.RuleBlock.{written_fields}
use Rattle.encoder.proofs.layout.BlockLengths.varying_fields.Goals as goal

-- A number of groups.
rounded : (n groups : ℕ) → groups ≡ n / 8 + min 1 (n % 8) → groups ≡ (n + 7) / 8
rounded n groups is = omega arith

pub overflow_cast-result : goal.overflow_cast-result
overflow_cast-result c =
    omega (arith, c.args.self.now.known.dna_fits)

pub overflow_cast-result-2 : goal.overflow_cast-result-2
overflow_cast-result-2 c =
    omega (arith, c.args.self.now.known.named_fits)

pub overflow_cast-result-3 : goal.overflow_cast-result-3
overflow_cast-result-3 c =
    omega (arith, c.args.self.now.known.sizes_fit)

pub overflow_cast-result-4 : goal.overflow_cast-result-4
overflow_cast-result-4 c =
    omega (arith, c.div_ceil.ensures, c.args.self.now.known.few)

pub overflow_cast-result-5 : goal.overflow_cast-result-5
overflow_cast-result-5 c =
    omega (arith, c.args.self.now.known.few)

pub overflow_cast-result-6 : goal.overflow_cast-result-6
overflow_cast-result-6 c =
    omega (arith, c.args.self.now.known.letters_fit)

pub returns : goal.returns
unfolding written_fields group_count
returns c ns count =
    let ends : List ℕ = c.args.self.now.ends.now in
    let each : ℕ = get_or (steps_from 0 ends) 0 0 in
    let equal = c.args.self.now.known.equal_is in
    λ i.
    record {
      l_dna = c.args.self.now.dna;
      l_names = c.args.self.now.named;
      l_size = c.args.self.now.known.sizes_are i;
      l_n = (rounded (length ends) _ c.div_ceil.ensures ∙ sym count) i;
      flags = (c.flags.ensures ∙ ap (λ (t : Bool). cond t 0x9 0x8) equal) i;
      l_read = (c.same_length.ensures ∙ ap (λ (t : Bool). cond t each 0) equal) i;
      n_reads = sym (length-steps_from 0 ends) i;
      b_id = c.args.id;
      l_dna_raw = c.args.self.now.known.letters_are i;
      c_time = c.args.time;
    }
