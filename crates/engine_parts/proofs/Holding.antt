-- What a session knows when it has entered a lock.
use Rattle.std.proofs.Common.{◌≡◌, ℕ, List, true, false, length, slice_index_or, sym, ap, subst, ◌∙◌}
use Rattle.hall.specs.Rule.{Holds}
use Rattle.hall.specs.Calls.{Looked, Entered}
use Rattle.tx_core.specs.declared.entry.Entry.{Entry}
use Rattle.tx_core.specs.declared.entry.Start.{Start}
use Rattle.tx_core.specs.Entries.{session_of}
use Rattle.tx_core.specs.EngineInvariant.{EngineInvariant}
use Rattle.notes.specs.Lists.{Knows, at}
use Rattle.engine_parts.specs.Holds.{Knowledge, Enters}
use Rattle.engine_parts.specs.Law.{writer_of}

module _ {V : Type 0} (stands : Start → ℕ → V → List Entry → Type 0) (start : Start) (lock : ℕ) (v v' w : Knowledge) (x : V) (named : Holds v v.name) (looked : Looked v v') (e : Entered session_of writer_of stands EngineInvariant start lock v' x w) where
  abbrev seen_is : v'.seen ≡ v.seen
  seen_is = ap (λ (z : Knowledge). z.seen) looked.1

  abbrev lists_are : e.lists ≡ w.seen
  lists_are = sym (ap (λ (z : Knowledge). z.seen) e.view_is)

  knows : Knows session_of v.name v.seen w.seen
  knows =
      let own = e.moment.own_seen v.name (subst (λ (hs : _). slice_index_or hs v.name false ≡ true) (sym (ap (λ (z : Knowledge). z.holds) looked.1)) named) in
      let k : Knows session_of v.name v'.seen e.lists = record { grows = e.moment.grows; own = own.entries } in
      subst (λ (z : List (List Entry) × List (List Entry)). Knows session_of v.name z.0 z.1) (λ j. (seen_is j, lists_are j)) k

  pub enters : Enters start lock v w
  enters = record {
    learns = record {
      knows = knows;
      long = ap length (sym lists_are) ∙ (e.moment.long ∙ ap length seen_is);
      name = ap (λ (z : Knowledge). z.name) e.view_is ∙ ap (λ (z : Knowledge). z.name) looked.1;
      holds = ap (λ (z : Knowledge). z.holds) e.view_is ∙ ap (λ (z : Knowledge). z.holds) looked.1;
    };
    kept = subst (EngineInvariant start) lists_are e.moment.law;
    inside = ap (λ (z : Knowledge). z.stage) e.view_is;
  }

  pub stood : stands start lock x (at w.seen lock)
  stood = subst (λ (z : List (List Entry)). stands start lock x (at z lock)) lists_are e.stood
