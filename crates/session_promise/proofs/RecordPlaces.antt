-- The records of the log's list, and its entries.
use Rattle.std.proofs.Common.{List, None, Option, Some, [], ap, inl, inr, refl, subst, sym, ⊎_elim, ◌∷◌, ◌≡◌, ◌∙◌}
use Rattle.std.specs.List.{cons_option, filter_map}
use Rattle.notes.specs.Lists.{at}
use Rattle.tx_events.specs.declared.event.By.{By}
use Rattle.tx_events.specs.declared.record.Rec.{Rec}
use Rattle.tx_events.proofs.Membership.{Has, has_contains, has_map, has_place, map_has}
use Rattle.tx_core.specs.declared.entry.Entry.{Entry}
use Rattle.tx_core.specs.declared.entry.Kind.TheVariants as kinds
use Rattle.tx_core.specs.Entries.{IsAppended, appended, records_in, records_of, recs_in}
use Rattle.tx_core.specs.Locks.{log_lock}
use Rattle.tx_core.proofs.Reading.{record_entry}
use Rattle.session_promise.specs.Promise.{recs_of}

pub filter_map_has : {A B : Type 0} (f : A → Option B) (xs : List A) (x : A) (y : B) → Has xs x → f x ≡ Some y → Has (filter_map f xs) y
filter_map_has f [] x y k q = absurd k
filter_map_has {B = B} f (z ∷ xs) x y k q =
    ⊎_elim
    (λ (e : z ≡ x). subst (λ (o : Option B). Has (cons_option o (filter_map f xs)) y) (sym (ap f e ∙ q)) (inl refl))
    (λ t. let r = filter_map_has f xs x y t q in elim (f z) as (λ (o : Option B). Has (cons_option o (filter_map f xs)) y) [ None ↦ r | Some s ↦ inr r ])
    k

-- an appended record is one of the records
pub rec_has : (es : List Entry) (by : By) (rec : Rec) → Has es (record { by = by; kind = kinds.Append rec }) → Has (recs_in es) rec
rec_has es by rec k = map_has (λ (r : By × Rec). r.1) (records_in es) (by, rec) (filter_map_has appended es (record { by = by; kind = kinds.Append rec }) (by, rec) k refl)

-- and each of them was appended
pub has_rec : (lists : List (List Entry)) (rec : Rec) → Has (recs_of lists) rec → (by : By) × IsAppended lists by.session rec
has_rec lists rec k =
    let m = has_map (λ (r : By × Rec). r.1) (records_of lists) rec k in
    let p = has_place (records_of lists) m.0 m.1 in
    let by : By = m.0.0 in
    let there : Has (at lists log_lock) (record { by = by; kind = kinds.Append m.0.1 }) = record_entry lists m.0.1 p.0 by p.1 in
    (by, (by, refl, has_contains (at lists log_lock) (record { by = by; kind = kinds.Append rec }) (subst (λ (r : Rec). Has (at lists log_lock) (record { by = by; kind = kinds.Append r })) m.2 there)))
