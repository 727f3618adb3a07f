-- Records of others name other ids: so what a session knows of its own records is enough.
use Rattle.std.proofs.Common.{Contains, List, Some, ap, inl, subst, sym, take, ℕ, ⊎_elim, ◌∙◌, ◌∷◌, ◌≡◌, eqb-true, refl}
use Rattle.std.specs.List.{last_or, slice_get}
use Rattle.std.specs.Option.{unwrap_or}
use Rattle.tx_events.specs.declared.event.By.{By}
use Rattle.tx_events.specs.declared.event.Event.{Event}
use Rattle.tx_events.specs.declared.event.Event.TheVariants as events
use Rattle.tx_events.specs.declared.multi.Member.{Member}
use Rattle.tx_events.specs.declared.multi.MultiEvent.{MultiEvent}
use Rattle.tx_events.specs.declared.multi.MultiEvent.TheVariants as multis
use Rattle.tx_events.specs.declared.record.Counters.{Counters}
use Rattle.tx_events.specs.declared.record.Rec.TheVariants as records
use Rattle.tx_events.proofs.Closing.{commit_ends, later_take, one_top, open_is}
use Rattle.tx_events.proofs.GivenIds.{legal_take, one_session, open_given}
use Rattle.tx_events.proofs.ListSteps.{not_both}
use Rattle.tx_events.proofs.Membership.{Has, contains_has, has_contains, has_filter, place_has}
use Rattle.tx_events.specs.Events.{given_to}
use Rattle.tx_events.specs.Families.{top}
use Rattle.tx_events.specs.History.{IsLegal, MayCome}
use Rattle.tx_events.specs.Multis.{multi_by}
use Rattle.tx_events.specs.Running.{is_ended, is_open, open_ids}
use Rattle.tx_core.specs.declared.entry.Entry.{Entry}
use Rattle.tx_core.specs.declared.entry.Kind.TheVariants as kinds
use Rattle.tx_core.specs.declared.entry.Start.{Start}
use Rattle.tx_core.proofs.Asking.{upheld_has}
use Rattle.tx_core.proofs.Exactness.{exact_given}
use Rattle.tx_core.proofs.Growing.{contains_begins}
use Rattle.tx_core.proofs.Lasting.{given_to_begins, history_grows}
use Rattle.tx_core.proofs.MultiGiven.{one_gen}
use Rattle.tx_core.proofs.Nearness.{multis_are_legal}
use Rattle.tx_core.proofs.Rising.{multis_grow}
use Rattle.tx_core.proofs.Stepping.{open_seen}
use Rattle.tx_core.specs.CommitRecordsExact.{HasNoRecord}
use Rattle.tx_core.specs.EngineInvariant.{EngineInvariant}
use Rattle.tx_core.specs.Consequences.{RecordsGiven}
use Rattle.tx_core.specs.Entries.{IsAppended, history, session_of}
use Rattle.tx_core.specs.Locks.{log_lock}
use Rattle.tx_core.specs.MultiEntries.{multi_history}
use Rattle.tx_core.specs.RecordsFollow.{IsGenOf, NeedsNamed}
use Rattle.tx_core.specs.RecordsOnce.{EndsOnce, HasNoAbort, HasNoMulti, IsAbortNamed, IsCommitNamed, OnceOf}
use Rattle.notes.specs.Lists.{Knows, at}

-- an id that its commit event closed isn't open
not_open : (base : Counters) (h : List Event) (session top_id id p : ℕ) (by : By) (subs : List ℕ) → IsLegal base h → by.session ≡ session → slice_get h p ≡ Some (events.Commit by top_id) → open_ids session (take p h) ≡ top_id ∷ subs
    → Contains (top_id ∷ subs) id → Has (open_ids session h) id → ⊥
not_open base h session t id p by subs legal own stands opened among still =
    let f = take p h in
    let legal_f = legal_take base h p legal in
    let mine : Has (open_ids session f) id = subst (λ (l : List ℕ). Has l id) (sym opened) (contains_has (t ∷ subs) id among) in
    let of_top : Has (open_ids session f) t = subst (λ (l : List ℕ). Has l t) (sym opened) (inl refl) in
    let rule : MayCome base f (events.Commit by t) = legal.rules p (events.Commit by t) stands in
    let over : top f id ≡ t = one_top base f legal_f session id t mine of_top ∙ eqb-true (top f t) t rule.1 in
    let l = later_take base h p id legal (open_given session f id mine) in
    let now : top h id ≡ t = ap (λ (line : List ℕ). unwrap_or (last_or (Some id) line) id) l.line ∙ over in
    not_both (is_ended h id) (commit_ends h by t id (place_has h p (events.Commit by t) stands) now) (open_is h id (has_filter (is_open h) (given_to session h) id still).1).0

pub records_given : RecordsGiven
records_given start lists session k = record {
  commit = λ top subs id a c. has_contains (given_to session (history lists)) id (exact_given (history lists) session top subs id (k.records.exact session top subs a) c);
  abort = λ top subs id a c.
      let e : Entry = record { by = a.0; kind = kinds.Append (records.Abort top subs) } in
      let named = (upheld_has (NeedsNamed start) lists log_lock e k.log.named (contains_has (at lists log_lock) e a.2)).1 in
      subst (λ n. Contains (given_to n (history lists)) id) a.1 (named id c);
  multi = λ multi offset members a.
      let e : Entry = record { by = a.0; kind = kinds.Append (records.Multi multi offset members) } in
      let gen = (upheld_has (NeedsNamed start) lists log_lock e k.log.named (contains_has (at lists log_lock) e a.2)).1.0 in (gen.0, gen.1 ∙ a.1, gen.2);
}

-- what a session has seen, and the lists as they are
module _ (start : Start) (seen lists : List (List Entry)) (by : By) (k : EngineInvariant start lists) (knows : Knows session_of by.session seen lists) (whole : at seen log_lock ≡ at lists log_lock) where
  -- a record that was seen stands
  stands_now : (e : Entry) → Contains (at seen log_lock) e → Contains (at lists log_lock) e
  stands_now e c = subst (λ (t : List Entry). Contains t e) whole c

  given_now : (id : ℕ) → Contains (given_to by.session (history seen)) id → Has (given_to by.session (history lists)) id
  given_now id c =
      contains_has (given_to by.session (history lists)) id (contains_begins (given_to by.session (history seen)) (given_to by.session (history lists)) id (given_to_begins by.session (history seen) (history lists) (history_grows seen lists knows.grows)) c)

  -- a commit record of an id that was given to the session is its own
  own_commit : (id : ℕ) → Has (given_to by.session (history lists)) id → (n : IsCommitNamed (at seen log_lock) id) → n.by.session ≡ by.session
  own_commit id mine n =
      let a : IsAppended lists n.by.session (records.Commit n.top n.subs) = (n.by, refl, stands_now (record { by = n.by; kind = kinds.Append (records.Commit n.top n.subs) }) n.stands) in
      let his = (records_given start lists n.by.session k).commit n.top n.subs id a n.among in
      one_session start.base (history lists) k.events.legal n.by.session by.session id (contains_has (given_to n.by.session (history lists)) id his) mine

  -- so an abort record
  own_abort : (id : ℕ) → Has (given_to by.session (history lists)) id → (n : IsAbortNamed (at seen log_lock) id) → n.by.session ≡ by.session
  own_abort id mine n =
      let a : IsAppended lists n.by.session (records.Abort n.top n.subs) = (n.by, refl, stands_now (record { by = n.by; kind = kinds.Append (records.Abort n.top n.subs) }) n.stands) in
      let his = (records_given start lists n.by.session k).abort n.top n.subs id a n.among in
      one_session start.base (history lists) k.events.legal n.by.session by.session id (contains_has (given_to n.by.session (history lists)) id his) mine

  -- so no record of others names what the session has open
  pub end_once : (top : ℕ) (subs : List ℕ) → open_ids by.session (history seen) ≡ top ∷ subs → HasNoRecord seen by.session → ((id : ℕ) → Contains (top ∷ subs) id → HasNoAbort seen by.session id) → EndsOnce (at seen log_lock) (top ∷ subs)
  end_once top subs opened none unaborted id c =
      let same : open_ids by.session (history lists) ≡ open_ids by.session (history seen) = open_seen start by.session seen lists k knows in
      let still : Has (open_ids by.session (history lists)) id = subst (λ (l : List ℕ). Has l id) (sym (same ∙ opened)) (contains_has (top ∷ subs) id c) in
      let mine : Has (given_to by.session (history lists)) id = (has_filter (is_open (history lists)) (given_to by.session (history lists)) id still).0 in (
        λ n.
            let own = own_commit id mine n in
            let a : IsAppended lists by.session (records.Commit n.top n.subs) = (n.by, own, stands_now (record { by = n.by; kind = kinds.Append (records.Commit n.top n.subs) }) n.stands) in
            ⊎_elim
            (λ (q : open_ids by.session (history lists) ≡ n.top ∷ n.subs). none n.top n.subs (n.by, own, n.stands) (sym same ∙ q))
            (λ (q : (p : ℕ) × (other : By) × (other.session ≡ by.session) × (slice_get (history lists) p ≡ Some (events.Commit other n.top)) × (open_ids by.session (take p (history lists)) ≡ n.top ∷ n.subs)).
            not_open start.base (history lists) by.session n.top id q.0 q.1 n.subs k.events.legal q.2 q.3 q.4 n.among still)
            (k.records.exact by.session n.top n.subs a).ids,
        λ n. unaborted id c n.top n.subs (n.by, own_abort id mine n, n.stands) n.among,
      )

  pub multi_once : (multi offset : ℕ) (members : List Member) → IsGenOf seen by.session multi offset members → HasNoMulti seen by.session multi → OnceOf (at seen log_lock) (records.Multi multi offset members)
  multi_once multi offset members gen none n =
      let h = multi_history lists in
      let a : IsAppended lists n.by.session (records.Multi multi n.offset n.members) = (n.by, refl, stands_now (record { by = n.by; kind = kinds.Append (records.Multi multi n.offset n.members) }) n.stands) in
      let theirs = (records_given start lists n.by.session k).multi multi n.offset n.members a in
      let mine : Contains h (multis.Gen gen.0 multi offset members) = contains_begins (multi_history seen) h (multis.Gen gen.0 multi offset members) (multis_grow seen lists knows.grows) gen.2 in
      let one = one_gen start.base theirs.0 gen.0 multi n.offset offset n.members members h (multis_are_legal start lists k) (contains_has h (multis.Gen theirs.0 multi n.offset n.members) theirs.2) (contains_has h (multis.Gen gen.0 multi offset members) mine) in
      let same : n.by.session ≡ by.session = sym theirs.1 ∙ ap (λ (z : MultiEvent). (multi_by z).session) one ∙ gen.1 in
      none n.offset n.members (n.by, same, n.stands)
