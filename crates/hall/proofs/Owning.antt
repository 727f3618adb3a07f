-- A pass of a table's seats is one of the table.
use Rattle.std.proofs.Common.{◌≡◌, [], ◌∷◌, refl, ap, ◌∙◌}
use Rattle.hall.specs.declared.pass.Token.{Token}
use Rattle.hall.specs.declared.hall.Hall.{Hall}
use Rattle.hall.specs.Calls.{IsOf, start_of}
use Rattle.hall.proofs.Fitting.{sees_places}

pub is_of : {L V E S : Type 0} (h : Hall L V E S) (p : Token V E S) → p.seat.table_id ≡ h.table.shared.table_id → p.seat.me.0.start ≡ start_of h ∷ [] → IsOf h p
is_of h p table start = record {
  table = table;
  start = start;
  wide = sees_places _ _ _ _ _ p.fits _ _ _ (ap (λ z. z.words) table ∙ h.sized.1) refl;
  named = p.fits.named;
}
