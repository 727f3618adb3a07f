-- What a step of a commit needs, and leaves.
use Rattle.std.proofs.Common.{◌≡◌, ◌⊎◌, ℕ, ◌+◌, ◌*◌, ◌/◌, ◌%◌, ◌^◌, ◌≤◌, ◌<◌, List, [], ◌∷◌, refl, sym, ap, subst, ◌∙◌, inl, inr, ⊎_elim, length, arith, Contains, Option, Some, None, IfSome, slice_get}
use Rattle.std.proofs.lemmas.Option.{same_Some, slice_get_within}
use Rattle.notes.specs.Lists.{Grows, Knows, at}
use Rattle.tx_events.specs.Ids.{low_half}
use Rattle.tx_events.specs.declared.record.Rec.TheVariants as records
use Rattle.slru_bank.specs.declared.plan.PlanStep.{PlanStep}
use Rattle.slru_bank.specs.declared.xact_state.State as stored
use Rattle.slru_bank.specs.declared.xact_state.State.TheVariants as named
use Rattle.slru_bank.specs.Plan.{plan}
use Rattle.slru_bank.specs.Steps.{IsBefore, step_first, step_ids}
use Rattle.slru_bank.proofs.Planning.{IsStep, all_committed, is_step, none_past, plan_long, sub_steps}
use Rattle.tx_core.specs.declared.entry.Entry.{Entry}
use Rattle.tx_core.specs.declared.entry.Start.{Start}
use Rattle.tx_core.specs.declared.entry.State.{State}
use Rattle.tx_core.specs.declared.entry.State.TheVariants as states
use Rattle.tx_core.specs.AbortRule.{Asks}
use Rattle.tx_core.specs.EngineInvariant.{EngineInvariant}
use Rattle.tx_core.specs.Entries.{IsAppended, IsMarked, Mark, marks, session_of}
use Rattle.tx_core.specs.Laws.{IsOnly}
use Rattle.tx_core.specs.Locks.{xact_lock, xact_lock_of, xact_page}
use Rattle.tx_core.specs.LogBeforeStatus.{InTree, IsDurable}
use Rattle.tx_core.proofs.Lasting.{appended_grows, flushed_grows, marked_grows}
use Rattle.tx_core.proofs.Opening.{committed_asked, never_aborted}
use Rattle.tx_core.proofs.Reading.{flushed_appended}
use Rattle.tx_core.proofs.Stepping.{own_asks}
use Rattle.engine_parts.specs.Stages.{IsSettling, state_of}
use Rattle.bank_sections.specs.Sets.{AsksOnly, MaySet}

-- the state that was set stands
abbrev StandsAs : Start → List (List Entry) → ℕ → stored.State → Type 0
StandsAs start lists id state = IfSome (state_of state) (λ name. IsMarked start lists id name)

-- the entries name the step's state so
abbrev pub Names : stored.State → State → Type 0
Names state name = state_of state ≡ Some name

named_one : (state other : State) (p : stored.State) → Names p state → Names p other → state ≡ other
named_one state other p a b = same_Some state other (sym a ∙ b)

stands_on : (start : Start) (seen more : List (List Entry)) (id : ℕ) (p : stored.State) → Grows seen more → StandsAs start seen id p → StandsAs start more id p
stands_on start seen more id named.InProgress g m = tt
stands_on start seen more id named.Committed g m = marked_grows start seen more id states.Committed g m
stands_on start seen more id named.Aborted g m = marked_grows start seen more id states.Aborted g m
stands_on start seen more id named.SubCommitted g m = marked_grows start seen more id states.SubCommitted g m

not_both : states.Committed ≡ states.SubCommitted → ⊥
not_both e = cc

-- ---- a step

bank_of : (banks page id : ℕ) (p : PlanStep) → p.page ≡ page % 2 ^ 17 → xact_page id ≡ page → xact_page (low_half id) % banks ≡ p.page % banks
bank_of banks page id p stored share = ap (λ z. z % banks) (let e : xact_page (low_half id) ≡ xact_page id % 2 ^ 17 = omega arith in e ∙ (ap (λ z. z % 2 ^ 17) share ∙ sym stored))

module _ (start : Start) (seen : List (List Entry)) (n : ℕ) (opened : List ℕ) (steps : ℕ) (g : IsSettling start seen n opened steps) (p : PlanStep) (at_step : slice_get (plan g.top g.subs) steps ≡ Some p) where
  abbrev step : IsStep g.top g.subs steps p
  step = is_step g.top g.subs steps p at_step

  abbrev ids : List ℕ
  ids = step_ids opened p

  abbrev bank : ℕ
  bank = p.page % start.banks

  abbrev here : {id : ℕ} → Contains ids id → Contains (step_ids (g.top ∷ g.subs) p) id
  here {id} c = subst (λ (l : List ℕ). Contains (step_ids l p) id) g.ids c

  locked : (id : ℕ) → Contains ids id → xact_lock_of start id ≡ xact_lock bank
  locked id c = ap xact_lock (bank_of start.banks step.page id p step.stored (step.share id (here c)))

  marked_before : (id : ℕ) (state : stored.State) → IsBefore (g.top ∷ g.subs) (plan g.top g.subs) steps id state → StandsAs start seen id state
  marked_before id state b = subst (StandsAs start seen id) b.sets (g.done b.place b.step b.before b.at id (subst (λ (l : List ℕ). Contains (step_ids l b.step) id) (sym g.ids) b.has))

  durable : (id : ℕ) → Contains ids id → IsDurable start seen n id
  durable id c = (g.top, g.subs, g.flushed, step.among id (here c))

  appended : IsAppended seen n (records.Commit g.top g.subs)
  appended = flushed_appended start seen n (records.Commit g.top g.subs) g.flushed

  tree : p.state ≡ named.Committed → (id : ℕ) → Contains ids id → InTree start seen n id
  tree is id c = record {
    top = g.top;
    subs = g.subs;
    appended = appended;
    among = step.among id (here c);
    before_top = λ q sub k other. marked_before sub named.SubCommitted (step.before_top is sub k other);
    after_top = λ other. marked_before g.top named.Committed (step.after_top is (λ (q : step.page ≡ xact_page g.top). other (step.share id (here c) ∙ q)));
  }

  -- an earlier state of an id of the step
  only : (new : State) → ((states.Committed ≡ new) ⊎ ((states.SubCommitted ≡ new) × (p.state ≡ named.SubCommitted))) → (lists : List (List Entry)) → EngineInvariant start lists → Knows session_of n seen lists → IsOnly start lists bank ids new
  only new is lists k knows id old c m q = of old.state refl
    where
      there : (other : State) → old.state ≡ other → IsMarked start lists id other
      there other o = (old.caller, subst (λ (z : ℕ). Contains (marks (at lists z)) (record { caller = old.caller; id = id; state = other })) (sym (locked id c)) (subst (λ (z : Mark). Contains (marks (at lists (xact_lock bank))) z) (λ j. record { caller = old.caller; id = q j; state = o j }) m))

      appended_there : IsAppended lists n (records.Commit g.top g.subs)
      appended_there = appended_grows seen lists n (records.Commit g.top g.subs) knows.grows appended

      of : (other : State) → old.state ≡ other → (old.state ≡ new) ⊎ (old.state ≡ states.SubCommitted)
      of states.SubCommitted o = inr o
      of states.Aborted o = absurd (never_aborted start lists n g.top g.subs id k appended_there (step.among id (here c)) (there states.Aborted o))
      of states.Committed o = ⊎_elim
          (λ (z : states.Committed ≡ new). inl (o ∙ z))
          (λ z. absurd (g.fresh p at_step (ap state_of z.1) id (subst (λ (l : List ℕ). Contains l id) (sym g.ids) (step.among id (here c)))
          (own_asks n id states.Committed seen lists knows (committed_asked start lists n g.top g.subs id k appended_there (step.among id (here c)) (there states.Committed o)))))
          is

  may_sub : p.state ≡ named.SubCommitted → MaySet start seen n bank ids states.SubCommitted
  may_sub is = record {
    page = step.page;
    share = λ id c. step.share id (here c);
    here = locked;
    logged = durable;
    tree = λ id c. tt;
    unrecorded = λ id c. tt;
    only = only states.SubCommitted (inr (refl, is));
  }

  may_commit : p.state ≡ named.Committed → MaySet start seen n bank ids states.Committed
  may_commit is = record {
    page = step.page;
    share = λ id c. step.share id (here c);
    here = locked;
    logged = durable;
    tree = tree is;
    unrecorded = λ id c. tt;
    only = only states.Committed (inl refl);
  }

  -- the step's ids may get its state
  pub may_step : (state : State) → Names p.state state → MaySet start seen n bank ids state
  may_step state is = ⊎_elim
      (λ (q : p.state ≡ named.SubCommitted). subst (MaySet start seen n bank ids) (named_one states.SubCommitted state p.state (ap state_of q) is) (may_sub q))
      (λ (q : p.state ≡ named.Committed). subst (MaySet start seen n bank ids) (named_one states.Committed state p.state (ap state_of q) is) (may_commit q))
      step.sets

  -- and are some of the open ids
  pub step_within : p.past + 1 ≤ length opened
  step_within = let l = ap length g.ids in let w = step.within in omega arith

  pub step_some : step_first p < p.past + 1
  step_some = step.some

  pub step_order : p.first ≤ p.past
  step_order = step.order

  pub step_sets : (p.state ≡ named.SubCommitted) ⊎ (p.state ≡ named.Committed)
  step_sets = step.sets

  -- behind the step one more is done
  pub settled_more : (more : List (List Entry)) (state : State) → Names p.state state → Grows seen more → ((id : ℕ) → Contains ids id → IsMarked start more id state) → AsksOnly n ids state seen more → IsSettling start more n opened (steps + 1)
  settled_more more state is grows sets asks = record {
    top = g.top;
    subs = g.subs;
    ids = g.ids;
    flushed = flushed_grows start seen more n (records.Commit g.top g.subs) grows g.flushed;
    upto = (let u = slice_get_within (plan g.top g.subs) steps p at_step in omega arith);
    done = λ j q before at_j id c. ⊎_elim
        (λ (old : j < steps). stands_on start seen more id q.state grows (g.done j q old at_j id c))
        (λ (new : j ≡ steps).
        let same : p ≡ q = same_Some p q (sym at_step ∙ (ap (λ z. slice_get (plan g.top g.subs) z) (sym new) ∙ at_j)) in
        subst (λ (z : PlanStep). StandsAs start more id z.state) same (subst (λ (o : Option State). IfSome o (λ name. IsMarked start more id name)) (sym is) (sets id (subst (λ (z : PlanStep). Contains (step_ids opened z) id) (sym same) c))))
        (either j before);
    fresh = λ q at_q sub id c asked.
        let was : p.state ≡ named.SubCommitted = sub_steps g.top g.subs steps p q at_q (sub_named q (is_step g.top g.subs (steps + 1) q at_q).sets sub) at_step in
        let set : states.SubCommitted ≡ state = named_one states.SubCommitted state p.state (ap state_of was) is in
        ⊎_elim (λ old. g.fresh p at_step (ap state_of was) id c old) (λ now. not_both (now.1 ∙ sym set)) (asks id states.Committed asked);
  }
    where
      either : (j : ℕ) → j < steps + 1 → (j < steps) ⊎ (j ≡ steps)
      either j h = grind arith

      sub_named : (q : PlanStep) → (q.state ≡ named.SubCommitted) ⊎ (q.state ≡ named.Committed) → Names q.state states.SubCommitted → q.state ≡ named.SubCommitted
      sub_named q (inl e) sub = e
      sub_named q (inr e) sub = absurd (not_both (named_one states.Committed states.SubCommitted q.state (ap state_of e) sub))

-- few steps are done
pub steps_few : (start : Start) (lists : List (List Entry)) (n : ℕ) (opened : List ℕ) (steps : ℕ) → IsSettling start lists n opened steps → steps + 1 ≤ 2 * length opened
steps_few start lists n opened steps g = let a = plan_long g.top g.subs in let b = ap length g.ids in let u = g.upto in omega arith

-- past the last step all are committed
pub settled_all : (start : Start) (lists : List (List Entry)) (n : ℕ) (opened : List ℕ) (steps : ℕ) (g : IsSettling start lists n opened steps) → slice_get (plan g.top g.subs) steps ≡ None → (id : ℕ) → Contains opened id → IsMarked start lists id states.Committed
settled_all start lists n opened steps g none id c =
    let b = all_committed g.top g.subs id (subst (λ (l : List ℕ). Contains l id) g.ids c) steps (none_past (plan g.top g.subs) steps none) in
    subst (StandsAs start lists id) b.sets (g.done b.place b.step b.before b.at id (subst (λ (l : List ℕ). Contains (step_ids l b.step) id) (sym g.ids) b.has))
