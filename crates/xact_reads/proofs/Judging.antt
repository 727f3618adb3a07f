-- The verdicts on stored members, while others go on, and what they are of the multixact's members.
use Rattle.std.proofs.Common.{Contains, List, None, Option, Some, [], ap, inl, inr, length, map, refl, subst, sym, take, ℕ, ⊎_elim, ◌++◌, ◌∙◌, ◌∷◌, ◌≡◌, ◌⊎◌}
use Rattle.std.proofs.lemmas.List.Sums.{fold_push}
use Rattle.std.proofs.lemmas.List.Elements.{Contains-append_left}
use Rattle.std.specs.Prelude.{unwrap_or}
use Rattle.std.specs.List.{AllZip}
use Rattle.notes.specs.Lists.{Grows}
use Rattle.tx_events.specs.After.{ids_of}
use Rattle.tx_events.specs.Ids.{IsFullId, low_half}
use Rattle.tx_events.specs.Nearest.{near_id}
use Rattle.tx_events.specs.declared.event.By.{By}
use Rattle.tx_events.specs.declared.event.Event.{Event}
use Rattle.tx_events.specs.declared.event.Event.TheVariants as events
use Rattle.tx_events.specs.declared.multi.Member.{Member}
use Rattle.tx_events.specs.declared.snapshot.SnapData.{SnapData}
use Rattle.tx_events.specs.Horizon.{announced_after, oldest_id}
use Rattle.tx_events.specs.Snapshots.{snapshot_xmax}
use Rattle.tx_events.specs.Visible.{is_visible}
use Rattle.tx_events.proofs.Membership.{Has, by_end, contains_has, has_contains, has_left, has_place, has_right, has_take}
use Rattle.tx_events.proofs.PlaceLemmas.{take-grows}
use Rattle.tx_model.specs.declared.command.Pair.{Pair}
use Rattle.tx_model.specs.declared.reply.MemberVerdict.{MemberVerdict}
use Rattle.tx_model.specs.declared.reply.Verdict.{Verdict}
use Rattle.tx_model.specs.declared.reply.Verdict.TheVariants as verdicts
use Rattle.tx_model.specs.Replies.{RoundSpan}
use Rattle.life_law.specs.MultiLines.{IsMemberVerdict, IsTold, MayCarry}
use Rattle.tx_core.specs.declared.entry.Entry.{Entry}
use Rattle.tx_core.specs.declared.entry.Start.{Start}
use Rattle.tx_core.specs.Entries.{history}
use Rattle.tx_core.proofs.Lasting.{history_grows}
use Rattle.recoverable.proofs.Stretches.{get_inside}
use Rattle.session_levels.specs.declared.session.RegisteredSnapshot.{RegisteredSnapshot}
use Rattle.session_levels.specs.Stands.{IsRegistered}
use Rattle.xact_reads.specs.Multis.{AreJudged, IsCarried, IsJudged, IsJudgedNormal, IsVerdictOn, stored_member}

-- ---- the oldest id

same_oldest : (base : ℕ) (h : List Event) (e : Event) → announced_after (oldest_id base h) e ≡ oldest_id base h → (oldest_id base h ≡ base) ⊎ ((by : By) × Has h (events.Oldest by (oldest_id base h)))
    → (oldest_id base (h ++ e ∷ []) ≡ base) ⊎ ((by : By) × Has (h ++ e ∷ []) (events.Oldest by (oldest_id base (h ++ e ∷ []))))
same_oldest base h e same before =
    let now : oldest_id base (h ++ e ∷ []) ≡ oldest_id base h = fold_push announced_after base h e ∙ same in
    ⊎_elim
    (λ (q : oldest_id base h ≡ base). inl (now ∙ q))
    (λ (q : (by : By) × Has h (events.Oldest by (oldest_id base h))). inr (q.0, subst (λ z. Has (h ++ e ∷ []) (events.Oldest q.0 z)) (sym now) (has_left h (e ∷ []) _ q.1)))
    before

oldest_step : (base : ℕ) (h : List Event) (e : Event) → (oldest_id base h ≡ base) ⊎ ((by : By) × Has h (events.Oldest by (oldest_id base h)))
    → (oldest_id base (h ++ e ∷ []) ≡ base) ⊎ ((by : By) × Has (h ++ e ∷ []) (events.Oldest by (oldest_id base (h ++ e ∷ []))))
oldest_step base h (events.Oldest by new) before =
    let e : Event = events.Oldest by new in
    let now : oldest_id base (h ++ e ∷ []) ≡ new = fold_push announced_after base h e in
    inr (by, subst (λ z. Has (h ++ e ∷ []) (events.Oldest by z)) (sym now) (has_right h (e ∷ []) e (inl refl)))
oldest_step base h (events.Id by id) before = same_oldest base h (events.Id by id) refl before
oldest_step base h (events.Sub by parent id) before = same_oldest base h (events.Sub by parent id) refl before
oldest_step base h (events.Undo by id) before = same_oldest base h (events.Undo by id) refl before
oldest_step base h (events.Commit by top) before = same_oldest base h (events.Commit by top) refl before
oldest_step base h (events.Abort by top) before = same_oldest base h (events.Abort by top) refl before
oldest_step base h (events.Snap name by) before = same_oldest base h (events.Snap name by) refl before
oldest_step base h (events.SnapDrop name by) before = same_oldest base h (events.SnapDrop name by) refl before
oldest_step base h (events.Ask by id) before = same_oldest base h (events.Ask by id) refl before

-- so at a place
pub carried_at : (start : Start) (lists : List (List Entry)) (place oldest : ℕ) → oldest ≡ oldest_id start.base.oldest (take place (history lists)) → IsCarried start lists oldest
carried_at start lists place oldest is =
    let front : List Event = take place (history lists) in
    subst (IsCarried start lists) (sym is)
    (⊎_elim inl (λ (q : (by : By) × Has front (events.Oldest by (oldest_id start.base.oldest front))). inr (q.0, has_contains (history lists) _ (has_take place (history lists) _ q.1)))
    (by_end (λ h. (oldest_id start.base.oldest h ≡ start.base.oldest) ⊎ ((by : By) × Has h (events.Oldest by (oldest_id start.base.oldest h)))) (inl refl) (λ h e before. oldest_step start.base.oldest h e before) front))

pub carried_now : (start : Start) (lists : List (List Entry)) (oldest : ℕ) → oldest ≡ oldest_id start.base.oldest (history lists) → IsCarried start lists oldest
carried_now start lists oldest is = subst (IsCarried start lists) (sym is)
    (⊎_elim inl (λ (q : (by : By) × Has (history lists) (events.Oldest by (oldest_id start.base.oldest (history lists)))). inr (q.0, has_contains (history lists) _ q.1))
    (by_end (λ h. (oldest_id start.base.oldest h ≡ start.base.oldest) ⊎ ((by : By) × Has h (events.Oldest by (oldest_id start.base.oldest h)))) (inl refl) (λ h e before. oldest_step start.base.oldest h e before) (history lists)))

pub carried_later : (start : Start) (lists more : List (List Entry)) (oldest : ℕ) → Grows lists more → IsCarried start lists oldest → IsCarried start more oldest
carried_later start lists more oldest g c = ⊎_elim inl
    (λ (q : (by : By) × Contains (history lists) (events.Oldest by oldest)). let b = history_grows lists more g in inr (q.0, subst (λ (h : List Event). Contains h (events.Oldest q.0 oldest)) b.1 (Contains-append_left (history lists) b.0 _ q.1)))
    c

-- ---- while others go on

module _ (start : Start) (lists more : List (List Entry)) (g : Grows lists more) (n : ℕ) (k : RegisteredSnapshot) (r : IsRegistered start.base (history lists) n k) where
  same_front : take k.place (history more) ≡ take k.place (history lists)
  same_front = let b = history_grows lists more g in ap (take k.place) (sym b.1) ∙ take-grows (history lists) b.0 _ k.place r.taken

  on_later : (o : Option ℕ) (v : Verdict) → IsVerdictOn start lists k.place o v → IsVerdictOn start more k.place o v
  on_later None verdicts.TooOld j = tt
  on_later None verdicts.Visible j = absurd j
  on_later None verdicts.Hidden j = absurd j
  on_later (Some id) verdicts.TooOld j = (j.0, carried_later start lists more j.0 g j.1, j.2)
  on_later (Some id) verdicts.Visible j = ap (λ (h : List Event). is_visible start.committed h id) same_front ∙ j
  on_later (Some id) verdicts.Hidden j = ap (λ (h : List Event). is_visible start.committed h id) same_front ∙ j

  pub verdict_later : (o : Option ℕ) (v : Verdict) → IsVerdictOn start lists k.place o v → IsVerdictOn start more k.place o v
  verdict_later = on_later

  judged_later : (pair : Pair) (v : MemberVerdict) → IsJudgedNormal start lists k pair v → IsJudgedNormal start more k pair v
  judged_later pair v j normal = let d = j normal in record { mode = d.mode; id = d.id; verdict = on_later (near_id k.snapshot.xmax pair.x.number) v.verdict d.verdict }

  pub all_later : (pairs : List Pair) (vs : List MemberVerdict) → AreJudged start lists k pairs vs → AreJudged start more k pairs vs
  all_later [] [] j = tt
  all_later [] (v ∷ vs) j = absurd j
  all_later (p ∷ pairs) [] j = absurd j
  all_later (p ∷ pairs) (v ∷ vs) j = (judged_later p v j.0, all_later pairs vs j.1)

-- one verdict more
pub one_more : (start : Start) (lists : List (List Entry)) (k : RegisteredSnapshot) (pairs : List Pair) (vs : List MemberVerdict) (pair : Pair) (v : MemberVerdict) → AreJudged start lists k pairs vs → IsJudgedNormal start lists k pair v → AreJudged start lists k (pairs ++ pair ∷ []) (vs ++ v ∷ [])
one_more start lists k [] [] pair v j one = (one, tt)
one_more start lists k [] (w ∷ vs) pair v j one = absurd j
one_more start lists k (p ∷ pairs) [] pair v j one = absurd j
one_more start lists k (p ∷ pairs) (w ∷ vs) pair v j one = (j.0, one_more start lists k pairs vs pair v j.1 one)

-- ---- what is told of the members

module _ (start : Start) (lists : List (List Entry)) (from n : ℕ) (k : RegisteredSnapshot) (r : IsRegistered start.base (history lists) n k) where
  abbrev h : List Event
  h = history lists

  abbrev round : RoundSpan
  round = record { from = from; to = length h }

  may_carry : (oldest : ℕ) → IsCarried start lists oldest → MayCarry start.base h round oldest
  may_carry oldest c = ⊎_elim inl
      (λ (q : (by : By) × Contains h (events.Oldest by oldest)).
      let p = has_place h (events.Oldest q.0 oldest) (contains_has h _ q.1) in
      inr (p.0, q.0, get_inside h p.0 _ p.1, p.1))
      c

  member_verdict : (o : Option ℕ) (v : Verdict) → IsVerdictOn start lists k.place o v → IsMemberVerdict start.base start.committed h round k.place o v
  member_verdict None verdicts.TooOld j = tt
  member_verdict None verdicts.Visible j = absurd j
  member_verdict None verdicts.Hidden j = absurd j
  member_verdict (Some id) verdicts.TooOld j = (j.0, may_carry j.0 j.1, j.2)
  member_verdict (Some id) verdicts.Visible j = j
  member_verdict (Some id) verdicts.Hidden j = j

  told : (member : Member) (v : MemberVerdict) → IsJudged start lists k (stored_member member) v → IsTold start.base start.committed h round k.place member v
  told member v j =
      let xmax : k.snapshot.xmax ≡ snapshot_xmax start.base.next (take k.place h) = ap (λ (d : SnapData). d.xmax) r.holds in record {
        mode = j.mode;
        id = j.id ∙ ap (λ z. unwrap_or (near_id z (low_half member.id)) (low_half member.id)) xmax;
        verdict = subst (λ z. IsMemberVerdict start.base start.committed h round k.place (near_id z (low_half member.id)) v.verdict) xmax (member_verdict (near_id k.snapshot.xmax (low_half member.id)) v.verdict j.verdict);
      }

  pub all_told : (members : List Member) (vs : List MemberVerdict) → ((id : ℕ) → Has (ids_of members) id → IsFullId id) → AreJudged start lists k (map stored_member members) vs → AllZip (IsTold start.base start.committed h round k.place) members vs
  all_told [] [] full j = tt
  all_told [] (v ∷ vs) full j = absurd j
  all_told (m ∷ members) [] full j = absurd j
  all_told (m ∷ members) (v ∷ vs) full j = (told m v (j.0 (full m.id (inl refl))), all_told members vs (λ id k. full id (inr k)) j.1)
