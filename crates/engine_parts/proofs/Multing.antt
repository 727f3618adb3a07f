-- The generator of multixacts stands for its list after each call.
use Rattle.std.proofs.Common.{List, [], ◌∷◌, ◌++◌, sym, ap, append-nil, ◌∙◌}
use Rattle.std.proofs.lemmas.List.Elements.{filter_map-append}
use Rattle.tx_events.specs.declared.event.By.{By}
use Rattle.tx_events.specs.declared.multi.MultiEvent.{MultiEvent}
use Rattle.multi_store.specs.Generator.{Adds, Generator}
use Rattle.tx_core.specs.declared.entry.Entry.{Entry}
use Rattle.tx_core.specs.declared.entry.Kind.TheVariants as kinds
use Rattle.tx_core.specs.declared.entry.Start.{Start}
use Rattle.tx_core.specs.MultiEntries.{multi_of, multis_in}
use Rattle.engine_parts.specs.Stand.{MultiStands}

-- it has the event of the entry too
pub multi_adds : (start : Start) (old new : Generator) (es : List Entry) (by : By) (event : MultiEvent) → MultiStands start old es → Adds old new event → MultiStands start new (es ++ record { by = by; kind = kinds.Multi event } ∷ [])
multi_adds start old new es by event s a =
    let e : Entry = record { by = by; kind = kinds.Multi event } in record {
      base = a.base ∙ s.base;
      events = a.events ∙ (ap (λ t. t ++ event ∷ []) s.events ∙ sym (filter_map-append multi_of es (e ∷ [])));
    }

-- and where nothing happened, it stands for the list with the look too
pub multi_looks : (start : Start) (g : Generator) (es : List Entry) (by : By) → MultiStands start g es → MultiStands start g (es ++ record { by = by; kind = kinds.Look } ∷ [])
multi_looks start g es by s =
    let e : Entry = record { by = by; kind = kinds.Look } in record {
      base = s.base;
      events = s.events ∙ sym (filter_map-append multi_of es (e ∷ []) ∙ append-nil (multis_in es));
    }
