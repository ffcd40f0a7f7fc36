-- `encoder::layout::BlockLengths::put_front` meets its contract: the header, then the size section. Assumes nothing.
use mathlib.Core.Path.{ap, ◌∙◌}
use Prim.Native.Nat.{ℕ, ◌+◌}
use mathlib.Core.List.{List}
use native.Mathlib.Omega.{arith}
use Rattle.base.specs.Lists.{steps_from}
use Rattle.base.specs.Paste.{pasted}
use Rattle.format.specs.Header.{header_bytes}
use Rattle.format.specs.RuleBlock.{HeaderFields, header_with, written_header, written_sizes}
use Rattle.encoder.proofs.layout.BlockLengths.put_front.Goals as goal

pub put_header-requires : goal.put_header-requires
put_header-requires c = omega (arith, c.requires)

pub put_size_section-requires : goal.put_size_section-requires
put_size_section-requires c = omega (arith, c.requires, c.args.self.now.known.sizes_are)

pub returns : goal.returns
unfolding written_header
returns c ns count =
    let a = c.args in
    let sizes : List ℕ = written_sizes (steps_from 0 a.self.now.ends.now) in
    c.put_size_section.ensures
    ∙ ap (λ (o : List ℕ). pasted o (121 + a.self.now.dna + a.self.now.named) sizes)
    (c.put_header.ensures
    ∙ ap (λ (f : HeaderFields). pasted a.out.now 0 (header_bytes (header_with f)))
    (c.varying_fields.ensures ns count))
