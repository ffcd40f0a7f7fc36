-- The widths of the symbols that the code packs. Nothing here is part of the format.
use Rattle.std.specs.Prelude.{ℕ, ◌*◌, ◌/◌, ◌<◌, ◌≡◌}

-- So many bits fill a byte with no rest, and are fewer than a byte.
abbrev pub Width : (bits : ℕ) → Type 0
Width bits = (bits * (8 / bits) ≡ 8) × (bits < 8)
