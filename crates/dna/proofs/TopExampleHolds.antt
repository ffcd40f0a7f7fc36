-- The worked example of the fifth count holds, by computation. Assumes nothing.
use mathlib.Core.Path.{refl}
use Rattle.base.specs.Lists.{keep, places_where}
use Rattle.dna.specs.TopExample.{forty_bases, top_lengths, top_n_section, full_bytes, almost_bytes}
use Rattle.dna.specs.TopExample.{bare_bytes, top_section, entries_on, full, almost, bare}
use Rattle.dna.specs.TopExample.{top_division, top_reads, TopRight}
use Rattle.dna.proofs.RangeTests.{ranges, record-fits}
use Rattle.dna.proofs.SumsAnsweredHold.{walking}

-- The record of 31 entries counts 1, that of 30 and the raw read count 0.
pub top_right : TopRight
unfolding walking ranges keep places_where forty_bases top_lengths top_n_section full_bytes almost_bytes
    bare_bytes top_section entries_on full almost bare top_division top_reads
top_right =
    record {
      fits = record { fits = refl };
      divides = record {
        bytes = refl;
        groups = (record { reads = refl; no_stray_bit = refl; with_n = refl }, tt);
        records = (
          record { bytes = refl; fits = record-fits _ full refl; no_fault = refl },
          (
            record { bytes = refl; fits = record-fits _ almost refl; no_fault = refl },
            (record { bytes = refl; fits = record-fits _ bare refl; no_fault = refl }, tt),
          ),
        );
      };
      walked = refl;
      fillers = refl;
      under_n = refl;
      differs = refl;
      each = refl;
      counts = refl;
    }
