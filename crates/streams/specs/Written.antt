-- What a writer holds where a write failed.
--
--   StopsShort old new s   a front of the text s was written, and not all of it
use Rattle.std.specs.Prelude.{◌≡◌, ℕ, ◌<◌, List, ◌++◌, length}
use Rattle.std.specs.Io.KnownBytes.{Appends}
use Rattle.std.specs.declared.option.Option.{Option}

abbrev pub StopsShort : Option (List ℕ) → Option (List ℕ) → List ℕ → Type 0
StopsShort old new s = (f : List ℕ) × (r : List ℕ) × (s ≡ f ++ r) × (0 < length r) × Appends old new f
