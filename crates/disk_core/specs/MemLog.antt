-- What a crash leaves of a log volume in memory: what was synced, what was written, or a mixture.
use Rattle.std.specs.Prelude.{◌≡◌, ◌⊎◌, ℕ, Bool, true, false, List, [], ◌∷◌}
use Rattle.disk_core.specs.Volume.{Volume}
use Rattle.disk_core.specs.declared.media.Crash.{Crash}
use Rattle.disk_core.specs.declared.media.Crash.TheVariants.{Lost, Kept, Torn}

-- at even places as synced, 0 where there was none, and at odd ones as written
abbrev pub mixed_bytes : Bool → List ℕ → List ℕ → List ℕ
mixed_bytes is_odd synced [] = []
mixed_bytes false [] (b ∷ written) = 0 ∷ mixed_bytes true [] written
mixed_bytes false (s ∷ synced) (b ∷ written) = s ∷ mixed_bytes true synced written
mixed_bytes true [] (b ∷ written) = b ∷ mixed_bytes false [] written
mixed_bytes true (s ∷ synced) (b ∷ written) = b ∷ mixed_bytes false synced written

abbrev pub mixed : Volume → Volume → Volume
mixed synced written = record { start = written.start; bytes = mixed_bytes false synced.bytes written.bytes }

-- what each crash leaves
abbrev pub outcome_of : Crash → Volume → Volume → Volume
outcome_of Lost synced written = synced
outcome_of Kept synced written = written
outcome_of Torn synced written = mixed synced written

abbrev pub IsOutcome : Volume → Volume → Volume → Type 0
IsOutcome synced written c = (c ≡ written) ⊎ ((c ≡ synced) ⊎ (c ≡ mixed synced written))
