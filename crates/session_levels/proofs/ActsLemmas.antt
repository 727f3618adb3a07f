-- What commands do.
use Rattle.std.proofs.lemmas.List.{length-map, map_push}
use Rattle.std.proofs.Math.Seq.{take-append_seam}
use Rattle.std.proofs.Common.{◌≡◌, ℕ, zero, suc, ◌+◌, ◌<◌, ◌≤◌, List, [], ◌∷◌, ◌++◌, length, map, take, drop, Some, None, Option, refl, sym, ap, subst, ◌∙◌, arith, append-nil, Bool, true, false, not, cond, ◌||◌, inr, ◌↔◌, IsTrue, ⊎_elim, ◌≢◌, ◌==◌, take_all}
use Rattle.std.specs.List.{AllByRecursion, filter, find, slice_get, list_any}
use Rattle.std.proofs.lemmas.Bool.{false≢true, or_cases, or_left, or_right}
use Rattle.tx_events.specs.declared.event.By.{By}
use Rattle.tx_events.specs.declared.event.Event.{Event}
use Rattle.tx_events.specs.declared.event.Event.TheVariants as events
use Rattle.tx_model.specs.declared.command.Command.{Command}
use Rattle.tx_model.specs.declared.command.Command.TheVariants as commands
use Rattle.tx_model.specs.declared.reply.Reply.{Reply}
use Rattle.tx_model.specs.declared.reply.Reply.TheVariants as replies
use Rattle.tx_events.specs.declared.refusal.Refusal.TheVariants as refusals
use Rattle.tx_events.specs.declared.snapshot.SnapData.{SnapData}
use Rattle.tx_events.specs.declared.record.Counters.{Counters}
use Rattle.tx_model.specs.CommandEvents.{HasEvents, giving, level_events}
use Rattle.tx_events.specs.Events.{by_of, given_by, is_of, same_name}
use Rattle.tx_events.specs.History.{next_given}
use Rattle.tx_events.specs.Horizon.{oldest_id}
use Rattle.tx_events.specs.Limits.{stop_limit, warn_limit}
use Rattle.tx_model.specs.Replies.{MayReadAt, MayReply, IsWarned, IsStopped, alone}
use Rattle.tx_events.specs.Snapshots.{snapshot_data}
use Rattle.tx_model.specs.Stance.{Stance, after, snap_of, second_of, without_snap, filled}
use Rattle.tx_events.proofs.ListSteps.{eqb-refl}
use Rattle.tx_events.proofs.PlaceLemmas.{slice_get-grows, slice_get-push, take-grows, last_at}
use Rattle.session_levels.specs.declared.session.RegisteredSnapshot.{RegisteredSnapshot}
use Rattle.session_levels.specs.Acts.{Acts}
use Rattle.session_levels.specs.Acts.{IsInTurn}
use Rattle.session_levels.specs.Stands.{levels_of, told_of, IsRegistered}
use Rattle.session_levels.proofs.LevelLemmas.{levels_given, levels_filled, levels_lack, some_levels}

-- nothing happened
pub acts_idle : (base : Counters) (by : By) (s s' : Stance) (command : Command) (reply : Reply) (h : List Event) → HasEvents by s command reply [] → MayReply base [] h (alone h h) by s command reply → after s by.command command reply [] ≡ s' → Acts base by s s' command reply h h
acts_idle base by s s' command reply h f a l = record { added = []; grown = sym (append-nil h); own = tt; fitting = f; allowed = a; left = l }

-- the command that took a registered snapshot, by the stance
pub snap_found : (name : List ℕ) (levels : List (Option ℕ)) (registered : List RegisteredSnapshot) (k : RegisteredSnapshot) → find (λ x. same_name x.name name) registered ≡ Some k → snap_of name (record { levels = levels; snaps = map told_of registered }) ≡ Some k.command
snap_found name levels [] k e = absurd cc
snap_found name levels (j ∷ registered) k e = either (same_name j.name name) e (λ f. snap_found name levels registered k f)
  where
    either : (b : Bool) → cond b (Some j) (find (λ x. same_name x.name name) registered) ≡ Some k → (find (λ x. same_name x.name name) registered ≡ Some k → second_of (find (λ p. same_name p.0 name) (map told_of registered)) ≡ Some k.command) → second_of (cond b (Some (told_of j)) (find (λ p. same_name p.0 name) (map told_of registered))) ≡ Some k.command
    either true f rest = let same : j ≡ k = cc in ap (λ (x : RegisteredSnapshot). Some x.command) same
    either false f rest = rest f

pub snap_missing : (name : List ℕ) (levels : List (Option ℕ)) (registered : List RegisteredSnapshot) → find (λ x. same_name x.name name) registered ≡ None → snap_of name (record { levels = levels; snaps = map told_of registered }) ≡ None
snap_missing name levels [] e = refl
snap_missing name levels (j ∷ registered) e = either (same_name j.name name) e (λ f. snap_missing name levels registered f)
  where
    either : (b : Bool) → cond b (Some j) (find (λ x. same_name x.name name) registered) ≡ None → (find (λ x. same_name x.name name) registered ≡ None → second_of (find (λ p. same_name p.0 name) (map told_of registered)) ≡ None) → second_of (cond b (Some (told_of j)) (find (λ p. same_name p.0 name) (map told_of registered))) ≡ None
    either true f rest = absurd cc
    either false f rest = rest f

pub not_live : (name : List ℕ) (registered : List RegisteredSnapshot) → find (λ x. same_name x.name name) registered ≡ None → list_any (λ x. same_name x.name name) registered ≡ false
not_live name [] e = refl
not_live name (j ∷ registered) e = either (same_name j.name name) e (λ f. not_live name registered f)
  where
    either : (b : Bool) → cond b (Some j) (find (λ x. same_name x.name name) registered) ≡ None → (find (λ x. same_name x.name name) registered ≡ None → list_any (λ x. same_name x.name name) registered ≡ false) → (b || list_any (λ x. same_name x.name name) registered) ≡ false
    either true f rest = absurd cc
    either false f rest = rest f

-- by whether a name is among the registered ones
pub none_found : (name : List ℕ) (registered : List RegisteredSnapshot) → list_any (λ x. same_name x.name name) registered ≡ false → find (λ x. same_name x.name name) registered ≡ None
none_found name [] e = refl
none_found name (j ∷ registered) e = either (same_name j.name name) e (λ f. none_found name registered f)
  where
    either : (b : Bool) → (b || list_any (λ x. same_name x.name name) registered) ≡ false → (list_any (λ x. same_name x.name name) registered ≡ false → find (λ x. same_name x.name name) registered ≡ None) → cond b (Some j) (find (λ x. same_name x.name name) registered) ≡ None
    either true f rest = absurd (false≢true (sym f))
    either false f rest = rest f

pub some_found : (name : List ℕ) (levels : List (Option ℕ)) (registered : List RegisteredSnapshot) → list_any (λ x. same_name x.name name) registered ≡ true → snap_of name (record { levels = levels; snaps = map told_of registered }) ≢ None
some_found name levels [] e = absurd (false≢true e)
some_found name levels (j ∷ registered) e = either (same_name j.name name) e (λ f. some_found name levels registered f)
  where
    either : (b : Bool) → (b || list_any (λ x. same_name x.name name) registered) ≡ true → (list_any (λ x. same_name x.name name) registered ≡ true → second_of (find (λ p. same_name p.0 name) (map told_of registered)) ≢ None) → second_of (cond b (Some (told_of j)) (find (λ p. same_name p.0 name) (map told_of registered))) ≢ None
    either true f rest = λ n. cc
    either false f rest = rest f

pub registered_at : (base : Counters) (h : List Event) (session : ℕ) (p : RegisteredSnapshot → Bool) (registered : List RegisteredSnapshot) (k : RegisteredSnapshot) → AllByRecursion (IsRegistered base h session) registered → find p registered ≡ Some k → IsRegistered base h session k × (p k ≡ true)
registered_at base h session p [] k a e = absurd cc
registered_at base h session p (j ∷ registered) k a e = either (p j) refl e (λ f. registered_at base h session p registered k a.1 f)
  where
    either : (b : Bool) → p j ≡ b → cond b (Some j) (find p registered) ≡ Some k → (find p registered ≡ Some k → IsRegistered base h session k × (p k ≡ true)) → IsRegistered base h session k × (p k ≡ true)
    either true q f rest = let same : j ≡ k = cc in (subst (IsRegistered base h session) same a.0, ap p (sym same) ∙ q)
    either false q f rest = rest f

pub told_dropped : (name : List ℕ) (registered : List RegisteredSnapshot) → without_snap name (map told_of registered) ≡ map told_of (filter (λ k. not (same_name k.name name)) registered)
told_dropped name [] = refl
told_dropped name (k ∷ registered) = either (same_name k.name name) (told_dropped name registered)
  where
    either : (b : Bool) → without_snap name (map told_of registered) ≡ map told_of (filter (λ k. not (same_name k.name name)) registered) → cond (not b) (told_of k ∷ without_snap name (map told_of registered)) (without_snap name (map told_of registered)) ≡ map told_of (cond (not b) (k ∷ filter (λ k. not (same_name k.name name)) registered) (filter (λ k. not (same_name k.name name)) registered))
    either true rest = rest
    either false rest = ap (λ t. told_of k ∷ t) rest

-- a snapshot that is taken
pub acts_snapped : (base : Counters) (by : By) (h : List Event) (levels : List (Option ℕ)) (registered : List RegisteredSnapshot) (k : RegisteredSnapshot) (lists : SnapData) → lists ≡ snapshot_data base.next h → find (λ x. same_name x.name k.name) registered ≡ None → length registered < 64 → k.command ≡ by.command →
    Acts base by (record { levels = levels; snaps = map told_of registered }) (record { levels = levels; snaps = map told_of (registered ++ k ∷ []) }) (commands.Snap k.name) (replies.Snapped lists) h (h ++ events.Snap k.name by ∷ [])
acts_snapped base by h levels registered k lists l free room c = record {
  added = events.Snap k.name by ∷ [];
  grown = refl;
  own = (refl, tt);
  fitting = refl;
  allowed = (
    snap_missing k.name levels registered free,
    omega (arith, length-map registered told_of),
    length h,
    last_at h (events.Snap k.name by),
    l ∙ ap (snapshot_data base.next) (sym (take-append_seam h ((events.Snap k.name by) ∷ []))),
  );
  left = ap (λ n. record { levels = levels; snaps = map told_of registered ++ (k.name, n) ∷ [] }) (sym c) ∙ ap (λ s. record { levels = levels; snaps = s }) (sym (map_push told_of registered k));
}

-- and one that is dropped
pub acts_dropped : (base : Counters) (by : By) (h : List Event) (levels : List (Option ℕ)) (registered : List RegisteredSnapshot) (name : List ℕ) → list_any (λ x. same_name x.name name) registered ≡ true →
    Acts base by (record { levels = levels; snaps = map told_of registered }) (record { levels = levels; snaps = map told_of (filter (λ k. not (same_name k.name name)) registered) }) (commands.DropSnap name) replies.Done h (h ++ events.SnapDrop name by ∷ [])
acts_dropped base by h levels registered name some = record {
  added = events.SnapDrop name by ∷ [];
  grown = refl;
  own = (refl, tt);
  fitting = refl;
  allowed = some_found name levels registered some;
  left = ap (λ s. record { levels = levels; snaps = s }) (told_dropped name registered);
}

-- no event so far is of this command
fresh_at : (by : By) (h : List Event) (p : ℕ) (e : Event) → AllByRecursion (λ f. (by_of f).command < by.command) (filter (is_of by.session) h) → slice_get h p ≡ Some e → by_of e ≡ by → ⊥
fresh_at by [] p e a g own = absurd cc
fresh_at by (f ∷ h) zero e a g own =
    let same : f ≡ e = cc in
    let mine : is_of by.session f ≡ true = ap (is_of by.session) same ∙ ap (λ (b : By). b.session == by.session) own ∙ eqb-refl by.session in
    let first = (subst (λ b. AllByRecursion (λ d. (by_of d).command < by.command) (cond b (f ∷ filter (is_of by.session) h) (filter (is_of by.session) h))) mine a).0 in
    let here : (by_of f).command ≡ by.command = ap (λ (x : Event). (by_of x).command) same ∙ ap (λ (b : By). b.command) own in
    omega arith
fresh_at by (f ∷ h) (suc p) e a g own = fresh_at by h p e (rest (is_of by.session f) a) g own
  where
    rest : (b : Bool) → AllByRecursion (λ d. (by_of d).command < by.command) (cond b (f ∷ filter (is_of by.session) h) (filter (is_of by.session) h)) → AllByRecursion (λ d. (by_of d).command < by.command) (filter (is_of by.session) h)
    rest true r = r.1
    rest false r = r

pub not_warned : (base : Counters) (by : By) (h : List Event) → AllByRecursion (λ f. (by_of f).command < by.command) (filter (is_of by.session) h) → IsTrue false ↔ IsWarned base h by
not_warned base by h f = (λ e. absurd (false≢true e), λ w. absurd (fresh_at by h w.place w.given.event f w.given.at w.given.own))

pub giving_by : (by : By) (p : Option ℕ) (id : ℕ) → by_of (giving by p id) ≡ by
giving_by by None id = refl
giving_by by (Some q) id = refl

giving_gives : (by : By) (p : Option ℕ) (id : ℕ) → given_by (giving by p id) ≡ Some id
giving_gives by None id = refl
giving_gives by (Some q) id = refl

-- one id more, with its warning
pub warned_push : (base : Counters) (by : By) (h : List Event) (p : Option ℕ) (id : ℕ) (warn late : Bool) → IsTrue warn ↔ IsWarned base h by → IsTrue late ↔ (warn_limit (oldest_id base.oldest h) ≤ id) → IsTrue (warn || late) ↔ IsWarned base (h ++ giving by p id ∷ []) by
warned_push base by h p id warn late w l =
    let e : Event = giving by p id in (
      λ t. ⊎_elim
          (λ a. let k = w.0 a in
          record {
            place = k.place;
            id = k.id;
            given = record { event = k.given.event; at = slice_get-grows h (e ∷ []) _ k.place k.given.at; own = k.given.own; gives = k.given.gives };
            late = subst (λ g. warn_limit (oldest_id base.oldest g) ≤ k.id) (sym (take-grows h (e ∷ []) _ k.place k.given.at)) k.late;
          })
          (λ b. record {
            place = length h;
            id = id;
            given = record { event = e; at = last_at h e; own = giving_by by p id; gives = giving_gives by p id };
            late = subst (λ g. warn_limit (oldest_id base.oldest g) ≤ id) (sym (take-append_seam h (e ∷ []))) (l.0 b);
          })
          (or_cases warn late t),
      λ k. ⊎_elim
          (λ (a : (k.place < length h) × (slice_get h k.place ≡ Some k.given.event)).
          or_left warn late (w.1 (record {
            place = k.place;
            id = k.id;
            given = record { event = k.given.event; at = a.1; own = k.given.own; gives = k.given.gives };
            late = subst (λ g. warn_limit (oldest_id base.oldest g) ≤ k.id) (take-grows h (e ∷ []) _ k.place a.1) k.late;
          })))
          (λ (a : (k.place ≡ length h) × (e ≡ k.given.event)).
          let same : Some id ≡ Some k.id = sym (giving_gives by p id) ∙ ap given_by a.1 ∙ k.given.gives in
          let one : id ≡ k.id = cc in
          let at : warn_limit (oldest_id base.oldest h) ≤ k.id = subst (λ g. warn_limit (oldest_id base.oldest g) ≤ k.id) (ap (λ n. take n (h ++ e ∷ [])) a.0 ∙ take-append_seam h (e ∷ [])) k.late in
          or_right warn late (l.1 (subst (λ z. warn_limit (oldest_id base.oldest h) ≤ z) (sym one) at)))
          (slice_get-push h e k.given.event k.place k.given.at),
    )

-- the stop limit is reached behind all events so far
drop_end : {X : Type 0} (xs : List X) → drop (length xs) xs ≡ []
drop_end [] = refl
drop_end (x ∷ xs) = drop_end xs

own_turn : (by : By) (h : List Event) → IsInTurn by h → AllByRecursion (λ e. (by_of e).session ≡ by.session → (by_of e).command ≤ by.command) h
own_turn by [] t = tt
own_turn by (e ∷ h) t = one (is_of by.session e) refl t (λ u. own_turn by h u)
  where
    one : (b : Bool) → is_of by.session e ≡ b → AllByRecursion (λ f. (by_of f).command ≤ by.command) (cond b (e ∷ filter (is_of by.session) h) (filter (is_of by.session) h)) → (IsInTurn by h → AllByRecursion (λ e. (by_of e).session ≡ by.session → (by_of e).command ≤ by.command) h) → ((by_of e).session ≡ by.session → (by_of e).command ≤ by.command) × AllByRecursion (λ e. (by_of e).session ≡ by.session → (by_of e).command ≤ by.command) h
    one true q a rest = (λ _. a.0, rest a.1)
    one false q a rest = (λ s. absurd (false≢true (sym q ∙ ap (λ n. n == by.session) s ∙ eqb-refl by.session)), rest a)

-- a command that runs alone may read behind all events
pub reads_last : (by : By) (h h' : List Event) → length h ≤ length h' → IsInTurn by h' → MayReadAt h' (alone h h') by (length h')
reads_last by h h' l t = record {
  not_before = l;
  not_past = omega arith;
  behind = subst (AllByRecursion (λ e. (by_of e).session ≡ by.session → by.command < (by_of e).command)) (sym (drop_end h')) tt;
  before = subst (AllByRecursion (λ e. (by_of e).session ≡ by.session → (by_of e).command ≤ by.command)) (sym (take_all (length h') h' (omega arith))) (own_turn by h' t);
}

pub is_stopped : (base : Counters) (by : By) (h h' : List Event) (next stop : ℕ) → length h ≤ length h' → IsInTurn by h' → next ≡ next_given base.next h' → stop ≡ stop_limit (oldest_id base.oldest h') → stop ≤ next → IsStopped base h' (alone h h') by next stop
is_stopped base by h h' next stop l t n s r = record {
  place = length h';
  read = reads_last by h h' l t;
  next_is = n ∙ ap (next_given base.next) (sym (take_all (length h') h' (omega arith)));
  stop_is = s ∙ ap (λ g. stop_limit (oldest_id base.oldest g)) (sym (take_all (length h') h' (omega arith)));
  reached = r;
}

pub events_own : (by : By) (p : Option ℕ) (levels : List (Option ℕ)) (ids : List ℕ) → AllByRecursion (λ e. by_of e ≡ by) (level_events by p levels ids)
events_own by p [] ids = tt
events_own by p (Some x ∷ levels) ids = events_own by (Some x) levels ids
events_own by p (None ∷ levels) [] = tt
events_own by p (None ∷ levels) (id ∷ ids) = (giving_by by p id, events_own by (Some id) levels ids)

-- a write, of which the ids given are these
pub acts_wrote : (base : Counters) (by : By) (h h' : List Event) (named ids : List ℕ) (unnamed : ℕ) (snaps : List (List ℕ × ℕ)) (warn : Bool) → 1 ≤ length (levels_of named unnamed) → unnamed ≡ length ids → h' ≡ h ++ level_events by None (levels_of named unnamed) ids → IsTrue warn ↔ IsWarned base h' by →
    Acts base by (record { levels = levels_of named unnamed; snaps = snaps }) (record { levels = levels_of (named ++ ids) 0; snaps = snaps }) commands.Write (replies.Wrote warn ids) h h'
acts_wrote base by h h' named ids unnamed snaps warn some n g w = record {
  added = level_events by None (levels_of named unnamed) ids;
  grown = g;
  own = events_own by None (levels_of named unnamed) ids;
  fitting = (refl, sym (levels_lack named unnamed ∙ n));
  allowed = (some_levels named unnamed some, w);
  left = ap (λ gs. record { levels = filled (levels_of named unnamed) gs; snaps = snaps }) (levels_given by named ids unnamed (omega arith))
      ∙ ap (λ ls. record { levels = ls; snaps = snaps }) (levels_filled named ids 0 unnamed (omega arith));
}

-- a write that was stopped behind these ids
pub acts_stopped : (base : Counters) (by : By) (h h' : List Event) (named ids : List ℕ) (unnamed left next stop : ℕ) (snaps : List (List ℕ × ℕ)) → unnamed ≡ length ids + left → 1 ≤ left → h' ≡ h ++ level_events by None (levels_of named unnamed) ids → IsStopped base h' (alone h h') by next stop →
    Acts base by (record { levels = levels_of named unnamed; snaps = snaps }) (record { levels = levels_of (named ++ ids) left; snaps = snaps }) commands.Write (replies.Refused (refusals.Stop next stop)) h h'
acts_stopped base by h h' named ids unnamed left next stop snaps n some g s = record {
  added = level_events by None (levels_of named unnamed) ids;
  grown = g;
  own = events_own by None (levels_of named unnamed) ids;
  fitting = inr (ids, refl, omega (arith, levels_lack named unnamed));
  allowed = (omega (arith, levels_lack named unnamed), s);
  left = ap (λ gs. record { levels = filled (levels_of named unnamed) gs; snaps = snaps }) (levels_given by named ids unnamed (omega arith))
      ∙ ap (λ ls. record { levels = ls; snaps = snaps }) (levels_filled named ids left unnamed n);
}
