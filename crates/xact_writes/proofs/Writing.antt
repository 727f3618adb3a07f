-- A write on its way, and what it did when it is done or refused.
use Rattle.std.proofs.Common.{Bool, IsTrue, List, None, Option, [], ap, append-nil, append_assoc, arith, eq-eqb, false, inl, inr, is_none, length, map, ne_eqb, refl, subst, suc, sym, zero, ℕ, ⊎_elim, ◌++◌, ◌+◌, ◌<◌, ◌==◌, ◌||◌, ◌↔◌, ◌∙◌, ◌∷◌, ◌≡◌, ◌≢◌, ◌≤◌}
use Rattle.std.specs.List.{AllByRecursion, filter, list_any}
use Rattle.notes.proofs.Growing.{begins_length}
use Rattle.tx_events.specs.declared.event.By.{By}
use Rattle.tx_events.specs.declared.event.Event.{Event}
use Rattle.tx_events.specs.declared.record.Counters.{Counters}
use Rattle.tx_events.specs.declared.refusal.Lock.TheVariants as locks
use Rattle.tx_events.specs.declared.refusal.Refusal.{Refusal}
use Rattle.tx_events.specs.declared.refusal.Refusal.TheVariants as refusals
use Rattle.tx_events.specs.Events.{by_of, given, is_of}
use Rattle.tx_events.specs.Running.{open_ids}
use Rattle.tx_events.proofs.ListSteps.{all_weaker, length_push}
use Rattle.tx_events.proofs.Membership.{all_from, none_passes}
use Rattle.tx_events.proofs.OwnEvents.{AreLater}
use Rattle.tx_model.specs.declared.command.Command.TheVariants as commands
use Rattle.tx_model.specs.declared.reply.Reply.TheVariants as replies
use Rattle.tx_model.specs.CommandEvents.{giving, level_events}
use Rattle.tx_model.specs.Replies.{IsWarned, alone}
use Rattle.tx_model.specs.Stance.{filled}
use Rattle.tx_model.proofs.Growth.{may_reply_grows}
use Rattle.tx_core.specs.OwnMultis.{own_multis}
use Rattle.tx_core.specs.declared.entry.Entry.{Entry}
use Rattle.tx_core.specs.declared.entry.Start.{Start}
use Rattle.tx_core.specs.Entries.{history}
use Rattle.tx_core.proofs.Lasting.{history_grows}
use Rattle.session_levels.specs.Stands.{last_of, levels_of, told_of}
use Rattle.session_levels.proofs.ActsLemmas.{events_own, is_stopped, not_warned, warned_push}
use Rattle.session_levels.proofs.LevelLemmas.{level_step, levels_filled, levels_given, levels_lack, levels_none, some_levels}
use Rattle.engine_parts.specs.declared.session.Session.{Session}
use Rattle.engine_parts.specs.declared.session.Stage.{Stage}
use Rattle.engine_parts.specs.declared.session.Stage.TheVariants as stages
use Rattle.engine_parts.specs.Adding.{Adds, IsPlain, MayLeave, MayMeet}
use Rattle.engine_parts.specs.Answers.{Acted}
use Rattle.engine_parts.specs.Sessions.{by_at, stance_of}
use Rattle.engine_parts.specs.Stages.{pending_in}
use Rattle.life_law.specs.Refused.{first_of, held_by, refused_by}
use Rattle.engine_parts.specs.Steps.{WentOn}
use Rattle.engine_parts.proofs.Acting.{acted_refused}
use Rattle.engine_parts.proofs.Adding.{adds_wider, met_leaves, plain_leaves}
use Rattle.engine_parts.proofs.Refusing.{first_fails}
use Rattle.engine_parts.proofs.Stepping.{went_nowhere, went_then}
use Rattle.bank_sections.specs.Faults.{IsBankFault, IsSubtransFault}
use Rattle.bank_sections.specs.Parents.{linked}
use Rattle.xact_writes.specs.Writes.{HasReserved, IsAlike, IsFresh, IsGivenLater, IsWithout, Writing}
use Rattle.xact_writes.proofs.Alike.{reserved_from}

-- what came between is of others
rest_went : (n : ℕ) (lists more : List (List Entry)) → WentOn n [] lists more → (rest : List Event) × (history lists ++ rest ≡ history more) × AllByRecursion (λ e. (by_of e).session ≢ n) rest
rest_went n lists more went =
    let b = history_grows lists more went.on.grows in
    let same : filter (is_of n) (history lists ++ b.0) ≡ filter (is_of n) (history lists) = ap (filter (is_of n)) b.1 ∙ (went.on.own ∙ append-nil (filter (is_of n) (history lists))) in
    (b.0, b.1, all_from (λ e. (by_of e).session ≢ n) b.0 (λ e k q. none_passes (is_of n) (history lists) b.0 same e k (eq-eqb (by_of e).session n q)))

later_beside : (by : By) (es : List Event) → AllByRecursion (λ e. (by_of e).session ≢ by.session) es → AreLater by es
later_beside by [] a = tt
later_beside by (e ∷ es) a = ((λ q. absurd (a.0 q)), later_beside by es a.1)

-- so the warning stays right
warned_beside : (base : Counters) (by : By) (h rest : List Event) (warn : Bool) → AllByRecursion (λ e. (by_of e).session ≢ by.session) rest → IsTrue warn ↔ IsWarned base h by → IsTrue warn ↔ IsWarned base (h ++ rest) by
warned_beside base by h rest warn beside w =
    let levels : List (Option ℕ) = None ∷ [] in
    (may_reply_grows base [] h rest (alone h h) (alone h h) by (record { levels = levels; snaps = [] }) commands.Write (replies.Wrote warn []) (omega arith) (omega arith) (omega arith) (later_beside by rest beside) ((λ q. cc), w)).1

pub writing_none : (start : Start) (n : ℕ) (s : Session) (lists : List (List Entry)) → IsFresh lists n s.levels.commands → Writing start n s s [] false lists lists
writing_none start n s lists fresh = record {
  went = subst (λ (t : List Event). WentOn n t lists lists) (sym (levels_none (by_at n s.levels.commands) None s.levels.level_ids.items s.levels.unnamed)) (went_nowhere n lists);
  named = sym (append-nil s.levels.level_ids.items);
  left = omega arith;
  registered = refl;
  count = refl;
  stage = refl;
  making = refl;
  warned = not_warned start.base (by_at n s.levels.commands) (history lists) fresh;
}

-- two sessions have the same levels
pub record HasLevels (s s' : Session) : Type 0 where
  pub levels : HasReserved s.levels s'.levels
  pub stage : s'.stage ≡ s.stage
  pub making : s'.making ≡ s.making

pub levels_same : (s s' : Session) → s' ≡ s → HasLevels s s'
levels_same s s' q = record { levels = reserved_from s.levels s'.levels (ap (λ z. z.levels) q); stage = ap (λ z. z.stage) q; making = ap (λ z. z.making) q }

pub levels_linked : (s s' : Session) → s' ≡ linked s → HasLevels s s'
levels_linked s s' q = record { levels = reserved_from s.levels s'.levels (ap (λ z. z.levels) q); stage = ap (λ z. z.stage) q; making = ap (λ z. z.making) q }

pub levels_alike : (s s' : Session) → IsAlike s s' → HasLevels s s'
levels_alike s s' k = record { levels = k.levels; stage = k.stage; making = k.making }

-- others went on
pub writing_on : (start : Start) (n : ℕ) (s s1 s2 : Session) (ids : List ℕ) (warn : Bool) (a b c : List (List Entry)) → Writing start n s s1 ids warn a b → WentOn n [] b c → HasLevels s1 s2 → Writing start n s s2 ids warn a c
writing_on start n s s1 s2 ids warn a b c k went same =
    let r = rest_went n b c went in
    let es : List Event = level_events (by_at n s.levels.commands) None (levels_of s.levels.level_ids.items s.levels.unnamed) ids in record {
      went = subst (λ (t : List Event). WentOn n t a c) (append-nil es) (went_then n es [] a b c k.went went);
      named = same.levels.named ∙ k.named;
      left = let l = k.left in let u = same.levels.unnamed in omega arith;
      registered = same.levels.registered ∙ k.registered;
      count = same.levels.commands ∙ k.count;
      stage = same.stage ∙ k.stage;
      making = same.making ∙ k.making;
      warned = subst (λ (h : List Event). IsTrue warn ↔ IsWarned start.base h (by_at n s.levels.commands)) r.1 (warned_beside start.base (by_at n s.levels.commands) (history b) r.0 warn r.2 k.warned);
    }

-- one id more
pub writing_step : (start : Start) (n : ℕ) (s s1 s2 : Session) (ids : List ℕ) (id : ℕ) (warn late : Bool) (a b c : List (List Entry)) → Writing start n s s1 ids warn a b → IsGivenLater start n s1 s2 id late b c → Writing start n s s2 (ids ++ id ∷ []) (warn || late) a c
writing_step start n s s1 s2 ids id warn late a b c k g =
    let by = by_at n s.levels.commands in
    let e : Event = giving by (last_of s1.levels.level_ids.items) id in
    let es : List Event = level_events by None (levels_of s.levels.level_ids.items s.levels.unnamed) ids in
    let event : giving (by_at n s1.levels.commands) (last_of s1.levels.level_ids.items) id ≡ e = λ j. giving (by_at n (k.count j)) (last_of s1.levels.level_ids.items) id in
    let r = rest_went n b g.middle g.went in
    let d = g.given.1 in
    let named = g.given.2 in
    let h : List Event = history g.middle ++ d.rest in
    let first : IsTrue warn ↔ IsWarned start.base (history g.middle) by = subst (λ (t : List Event). IsTrue warn ↔ IsWarned start.base t by) r.1 (warned_beside start.base by (history b) r.0 warn r.2 k.warned) in
    let second : IsTrue warn ↔ IsWarned start.base h by = warned_beside start.base by (history g.middle) d.rest warn d.beside first in
    let third : IsTrue (warn || late) ↔ IsWarned start.base (h ++ e ∷ []) by = warned_push start.base by h (last_of s1.levels.level_ids.items) id warn late second d.late in
    let after : history c ≡ h ++ e ∷ [] = d.after ∙ ap (λ (z : Event). h ++ z ∷ []) event in
    let went : WentOn n (es ++ e ∷ []) a c = went_then n es (e ∷ []) a b c k.went (went_then n [] (e ∷ []) b g.middle c g.went (subst (λ (z : Event). WentOn n (z ∷ []) g.middle c) event g.given.0)) in
    let l = k.left in
    let u = named.unnamed in record {
      went = subst (λ (t : List Event). WentOn n t a c) (ap (λ p. es ++ giving by p id ∷ []) (ap last_of k.named) ∙ sym (level_step by s.levels.level_ids.items ids id s.levels.unnamed (omega arith))) went;
      named = named.named ∙ (ap (λ (t : List ℕ). t ++ id ∷ []) k.named ∙ append_assoc s.levels.level_ids.items ids (id ∷ []));
      left = omega (arith, k.left, named.unnamed, length_push ids id);
      registered = named.registered ∙ k.registered;
      count = named.count ∙ k.count;
      stage = named.stage ∙ k.stage;
      making = named.making ∙ k.making;
      warned = subst (λ (t : List Event). IsTrue (warn || late) ↔ IsWarned start.base t by) (sym after) third;
    }

-- a level that has no id is one that lacks one
lacks_some : (named : List ℕ) (unnamed : ℕ) → 1 ≤ unnamed → IsTrue (list_any is_none (levels_of named unnamed))
lacks_some [] (suc k) some = refl
lacks_some [] zero some = absurd (omega arith)
lacks_some (x ∷ named) unnamed some = lacks_some named unnamed some

-- none of the refusals by how a session stands
pub not_refused : (s : Session) → s.stage ≡ stages.Clear → 1 ≤ length (levels_of s.levels.level_ids.items s.levels.unnamed) → refused_by commands.Write (stance_of s) (pending_in s.stage) ≡ None
not_refused s clear some =
    first_fails (length (stance_of s).levels == 0) refusals.NoTransaction _ (ne_eqb (length (stance_of s).levels) 0 (λ e. omega arith))
    ∙ ap (λ (z : Stage). first_of (held_by commands.Write (pending_in z) ∷ [])) clear

module _ (tells : Bool) (start : Start) (n : ℕ) (s s1 : Session) (ids : List ℕ) (warn : Bool) (lists more : List (List Entry)) (k : Writing start n s s1 ids warn lists more) (clear : s.stage ≡ stages.Clear)
    (some : 1 ≤ length (levels_of s.levels.level_ids.items s.levels.unnamed)) where
  abbrev by : By
  by = by_at n s.levels.commands

  abbrev es : List Event
  es = level_events by None (levels_of s.levels.level_ids.items s.levels.unnamed) ids

  left_stance : record (stance_of s) { levels = filled (levels_of s.levels.level_ids.items s.levels.unnamed) (given es) } ≡ stance_of s1
  left_stance =
      ap (λ gs. record (stance_of s) { levels = filled (levels_of s.levels.level_ids.items s.levels.unnamed) gs }) (levels_given by s.levels.level_ids.items ids s.levels.unnamed (let l = k.left in omega arith))
      ∙ (ap (λ ls. record (stance_of s) { levels = ls }) (levels_filled s.levels.level_ids.items ids s1.levels.unnamed s.levels.unnamed k.left)
      ∙ (λ j. record { levels = levels_of (sym k.named j) s1.levels.unnamed; snaps = map told_of (ap (λ z. z.items) (sym k.registered) j) }))

  -- these were the ids that the session had open
  abbrev opened : List ℕ
  opened = open_ids n (history lists)

  plain : (ids : List ℕ) (warn : Bool) → Adds by IsPlain lists more → Adds by (MayLeave commands.Write (stance_of s) s.stage opened (replies.Wrote warn ids)) lists more
  plain ids warn = adds_wider by IsPlain _ lists more (plain_leaves commands.Write (stance_of s) s.stage opened (replies.Wrote warn ids))

  met : (r : Refusal) → Adds by (MayMeet r) lists more → Adds by (MayLeave commands.Write (stance_of s) s.stage opened (replies.Refused r)) lists more
  met r = adds_wider by (MayMeet r) _ lists more (met_leaves commands.Write (stance_of s) s.stage opened r)

  -- each level has its id
  pub acted_wrote : s1.levels.unnamed ≡ 0 → Adds by IsPlain lists more → Acted tells start by (stance_of s) (stance_of s1) s.stage commands.Write (replies.Wrote warn ids) lists more
  acted_wrote done adds = record {
    grows = k.went.on.grows;
    added = es;
    own = k.went.on.own;
    each = events_own by None (levels_of s.levels.level_ids.items s.levels.unnamed) ids;
    fitting = (refl, (let l = k.left in let z = levels_lack s.levels.level_ids.items s.levels.unnamed in omega arith));
    multis = [];
    own_multi = k.went.on.multis ∙ sym (append-nil (own_multis n lists));
    each_multi = tt;
    fitting_multi = refl;
    adds = plain ids warn adds;
    allowed = (some_levels s.levels.level_ids.items s.levels.unnamed some, k.warned);
    standing = sym (not_refused s clear some);
    left = left_stance;
  }

  -- a fault was met at the last parent
  pub acted_unlinked : (r : Refusal) → IsSubtransFault more by r → Adds by (MayMeet r) lists more → Acted tells start by (stance_of s) (stance_of s1) s.stage commands.Write (replies.Refused r) lists more
  acted_unlinked (refusals.DiskFault (locks.Subtrans bank)) fault adds = record {
    grows = k.went.on.grows;
    added = es;
    own = k.went.on.own;
    each = events_own by None (levels_of s.levels.level_ids.items s.levels.unnamed) ids;
    fitting = inr (ids, refl, (let l = k.left in let z = levels_lack s.levels.level_ids.items s.levels.unnamed in omega arith));
    multis = [];
    own_multi = k.went.on.multis ∙ sym (append-nil (own_multis n lists));
    each_multi = tt;
    fitting_multi = refl;
    adds = met (refusals.DiskFault (locks.Subtrans bank)) adds;
    allowed = (refl, fault);
    standing = sym (not_refused s clear some);
    left = left_stance;
  }
  acted_unlinked r fault adds = absurd fault

  -- a fault was met
  pub acted_faulted : (r : Refusal) → 1 ≤ s.levels.unnamed → IsBankFault more by r → Adds by (MayMeet r) lists more → Acted tells start by (stance_of s) (stance_of s1) s.stage commands.Write (replies.Refused r) lists more
  acted_faulted (refusals.DiskFault (locks.Xact bank)) lacked fault adds = record {
    grows = k.went.on.grows;
    added = es;
    own = k.went.on.own;
    each = events_own by None (levels_of s.levels.level_ids.items s.levels.unnamed) ids;
    fitting = inr (ids, refl, (let l = k.left in let z = levels_lack s.levels.level_ids.items s.levels.unnamed in omega arith));
    multis = [];
    own_multi = k.went.on.multis ∙ sym (append-nil (own_multis n lists));
    each_multi = tt;
    fitting_multi = refl;
    adds = met (refusals.DiskFault (locks.Xact bank)) adds;
    allowed = (lacks_some s.levels.level_ids.items s.levels.unnamed lacked, fault);
    standing = sym (not_refused s clear some);
    left = left_stance;
  }
  acted_faulted (refusals.DiskFault (locks.Subtrans bank)) lacked fault adds = acted_unlinked (refusals.DiskFault (locks.Subtrans bank)) fault adds
  acted_faulted r lacked fault adds = absurd fault

  -- want of memory
  pub acted_starved : 1 ≤ s1.levels.unnamed → Adds by (MayMeet refusals.Memory) lists more → Acted tells start by (stance_of s) (stance_of s1) s.stage commands.Write (replies.Refused refusals.Memory) lists more
  acted_starved lacks adds = record {
    grows = k.went.on.grows;
    added = es;
    own = k.went.on.own;
    each = events_own by None (levels_of s.levels.level_ids.items s.levels.unnamed) ids;
    fitting = inr (ids, refl, (let l = k.left in let z = levels_lack s.levels.level_ids.items s.levels.unnamed in omega arith));
    multis = [];
    own_multi = k.went.on.multis ∙ sym (append-nil (own_multis n lists));
    each_multi = tt;
    fitting_multi = refl;
    adds = met refusals.Memory adds;
    allowed = lacks_some s.levels.level_ids.items s.levels.unnamed (let l = k.left in omega arith);
    standing = sym (not_refused s clear some);
    left = left_stance;
  }

  -- the next level wasn't given an id
  pub acted_without : (r : Refusal) → 1 ≤ s1.levels.unnamed → AllByRecursion (λ e. (by_of e).command ≤ s.levels.commands) (filter (is_of n) (history more)) → IsWithout start more by r → Adds by (MayMeet r) lists more → Acted tells start by (stance_of s) (stance_of s1) s.stage commands.Write (replies.Refused r) lists more
  acted_without r lacks turn why adds =
      let l = k.left in
      let z = levels_lack s.levels.level_ids.items s.levels.unnamed in
      let longer = begins_length (history lists) (history more) (history_grows lists more k.went.on.grows) in
      ⊎_elim (⊎_elim
      (λ (m : r ≡ refusals.Memory). subst (λ (q : Refusal). Acted tells start by (stance_of s) (stance_of s1) s.stage commands.Write (replies.Refused q) lists more) (sym m) (acted_starved lacks (subst (λ (q : Refusal). Adds by (MayMeet q) lists more) m adds)))
      (λ p. subst (λ (q : Refusal). Acted tells start by (stance_of s) (stance_of s1) s.stage commands.Write (replies.Refused q) lists more) (sym p.1) (record {
        grows = k.went.on.grows;
        added = es;
        own = k.went.on.own;
        each = events_own by None (levels_of s.levels.level_ids.items s.levels.unnamed) ids;
        fitting = inr (ids, refl, omega arith);
        multis = [];
        own_multi = k.went.on.multis ∙ sym (append-nil (own_multis n lists));
        each_multi = tt;
        fitting_multi = refl;
        adds = met _ (subst (λ (q : Refusal). Adds by (MayMeet q) lists more) p.1 adds);
        allowed = ((let y = levels_lack s.levels.level_ids.items s.levels.unnamed in omega arith), is_stopped start.base by (history lists) (history more) _ _ longer turn refl refl p.0);
        standing = sym (not_refused s clear some);
        left = left_stance;
      })))
      (λ fault. acted_faulted r (let l = k.left in omega arith) fault adds)
      why

-- want of memory before anything was done
pub acted_at_once : (tells : Bool) (start : Start) (n : ℕ) (s : Session) (lists : List (List Entry)) → s.stage ≡ stages.Clear → 1 ≤ length (levels_of s.levels.level_ids.items s.levels.unnamed) → 1 ≤ s.levels.unnamed → Acted tells start (by_at n s.levels.commands) (stance_of s) (stance_of s) s.stage commands.Write (replies.Refused refusals.Memory) lists lists
acted_at_once tells start n s lists clear some lacked =
    acted_refused {tells = tells} start lists lists n s.levels.commands (stance_of s) (stance_of s) s.stage commands.Write refusals.Memory refl refl (inl refl) refl (lacks_some s.levels.level_ids.items s.levels.unnamed lacked) (sym (not_refused s clear some))

-- a session that goes on to its next command has no event of it
pub fresh_next : (n m : ℕ) (lists : List (List Entry)) → AllByRecursion (λ e. (by_of e).command ≤ m) (filter (is_of n) (history lists)) → IsFresh lists n (m + 1)
fresh_next n m lists a = all_weaker (λ (e : Event). (by_of e).command ≤ m) (λ (e : Event). (by_of e).command < m + 1) (λ e le. omega arith) (filter (is_of n) (history lists)) a

-- no end was begun
pub clear_stage : (stage : Stage) → pending_in stage ≡ None → stage ≡ stages.Clear
clear_stage stages.Clear q = refl
clear_stage (stages.Logged number) q = absurd cc
clear_stage (stages.Settling steps) q = absurd cc
clear_stage stages.Aborting q = absurd cc
clear_stage stages.Undoing q = absurd cc

-- a number that isn't 0
pub positive : (n : ℕ) → (n ≡ 0 → ⊥) → 1 ≤ n
positive zero other = absurd (other refl)
positive (suc n) other = omega arith
