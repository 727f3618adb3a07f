-- The cutoff of a bank, after one entry more.
use Rattle.std.proofs.Common.{inl, inr, ⊎_elim, ℕ, List, [], ◌∷◌, ◌++◌}
use Rattle.std.proofs.lemmas.List.Elements.{Contains-append_left}
use Rattle.tx_core.specs.declared.entry.Entry.{Entry}
use Rattle.engine_parts.specs.Stand.{IsCutoff}

pub cutoff_more : (first pages : ℕ) (es : List Entry) (e : Entry) (cutoff : ℕ) → IsCutoff first pages es cutoff → IsCutoff first pages (es ++ e ∷ []) cutoff
cutoff_more first pages es e cutoff c = (c.0, c.1, c.2, ⊎_elim inl (λ z. inr (z.0, Contains-append_left es (e ∷ []) z.0 z.1, z.2)) c.3)
