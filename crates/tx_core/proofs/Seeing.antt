-- The verdict of the state and the topmost parent that were read is whether the id is visible.
use Rattle.std.proofs.Common.{Bool, List, Option, [], ap, arith, cond, false, not, refl, subst, sym, take, true, ℕ, ◌&&◌, ◌==◌, ◌||◌, ◌∙◌, ◌∷◌, ◌≡◌}
use Rattle.std.proofs.lemmas.Bool.Decides.{nat_tests}
use Rattle.std.specs.Prelude.{nat_le, nat_lt}
use Rattle.tx_events.proofs.SaysLemmas.{subs_ascend, xips_ascend}
use Rattle.tx_events.specs.Says.{says_of}
use Rattle.tx_events.specs.Sights.{sight_by, sight_said, top_sight_by}
use Rattle.tx_events.specs.declared.sight.Sight.{Sight}
use Rattle.tx_events.specs.declared.sight.Sight.TheVariants as sights
use Rattle.tx_events.specs.declared.said.Says.TheVariants as says
use Rattle.tx_events.proofs.GivenIds.{legal_take}
use Rattle.tx_events.proofs.ListSteps.{equal_swap}
use Rattle.tx_events.specs.IdLists.{Ascending, has}
use Rattle.tx_events.specs.declared.event.Event.{Event}
use Rattle.tx_events.specs.declared.snapshot.SnapData.{SnapData}
use Rattle.tx_events.specs.Snapshots.{is_overflowed, snapshot_data, snapshot_xmin}
use Rattle.tx_core.specs.declared.entry.State.{State}
use Rattle.tx_core.proofs.Climbing.{decides}
use Rattle.tx_core.specs.Entries.{history}
use Rattle.tx_core.specs.Verdict.{IsClimb, IsRight, is_among, is_committed, says_ended, verdict}

pub is_right : (snap : SnapData) (state : Option State) (topmost x : ℕ) → IsRight snap state topmost x (verdict snap state topmost x)
is_right snap state topmost x start lists more shown p by name parents k m grows is taken held read full oldest few climb =
    let g : List Event = take p (history lists) in
    let climbs : is_overflowed start.base.next g ≡ true → IsClimb start lists more (snapshot_xmin start.base.next g) x parents topmost
    = λ o. subst (λ (d : SnapData). IsClimb start lists more d.xmin x parents topmost) held (climb (ap (λ (d : SnapData). d.overflowed) held ∙ o)) in
    ap (λ (d : SnapData). verdict d state topmost x) held
    ∙ ap (λ (s : Option State). verdict (snapshot_data start.base.next g) s topmost x) read
    ∙ decides start lists more shown p by name x topmost parents k m grows is taken full oldest few climbs

-- a check of the lists in either order of the comparison
among_is : (x : ℕ) (ids : List ℕ) → has ids x ≡ is_among x ids
among_is x [] = refl
among_is x (y ∷ ids) = ap (λ b. b || has ids x) (equal_swap x y) ∙ ap (λ b. (y == x) || b) (among_is x ids)

-- the answer, where a topmost parent would decide so
abbrev pub sight_then : Sight → Bool → Bool
sight_then sights.Seen seen = true
sight_then sights.Hidden seen = false
sight_then sights.AskParents seen = seen

one_rule : (c l o e u v : Bool) → sight_then (cond c (sight_said (cond l says.Ended (cond true (cond o says.AskParents (cond e says.Running says.Ended)) says.Running))) sights.Hidden) (u || not v) ≡ (c && cond l true (cond o (cond u true (not v)) (not e)))
one_rule false l o e u v = refl
one_rule true true o e u v = refl
one_rule true false true e true v = refl
one_rule true false true e false v = refl
one_rule true false false true u v = refl
one_rule true false false false u v = refl

-- the rule of visibility gives the verdict
pub rule_is : (snap : SnapData) (state : Option State) (topmost x : ℕ) → sight_then (sight_by snap x (is_committed state)) (top_sight_by snap topmost) ≡ verdict snap state topmost x
rule_is snap state topmost x = past (nat_le snap.xmax x) refl
  where
    past : (b : Bool) → nat_le snap.xmax x ≡ b → sight_then (cond b sights.Hidden (cond (is_committed state) (sight_said (says_of snap x)) sights.Hidden)) (top_sight_by snap topmost) ≡ cond b false (is_committed state && says_ended snap topmost x)
    past true e = refl
    past false e =
        let below : nat_lt x snap.xmax ≡ true = grind (arith, nat_tests) in
        ap (λ b. sight_then (cond (is_committed state) (sight_said (cond (nat_lt x snap.xmin) says.Ended (cond b (cond snap.overflowed says.AskParents (cond (has snap.xip x || has snap.subxip x) says.Running says.Ended)) says.Running))) sights.Hidden) (top_sight_by snap topmost)) below
        ∙ one_rule (is_committed state) (nat_lt x snap.xmin) snap.overflowed (has snap.xip x || has snap.subxip x) (nat_lt topmost snap.xmin) (has snap.xip topmost)
        ∙ ap (λ v. is_committed state && cond (nat_lt x snap.xmin) true (cond snap.overflowed (cond (nat_lt topmost snap.xmin) true (not v)) (not (has snap.xip x || has snap.subxip x)))) (among_is topmost snap.xip)
        ∙ ap (λ v. is_committed state && cond (nat_lt x snap.xmin) true (cond snap.overflowed (cond (nat_lt topmost snap.xmin) true (not (is_among topmost snap.xip))) (not (v || has snap.subxip x)))) (among_is x snap.xip)
        ∙ ap (λ v. is_committed state && cond (nat_lt x snap.xmin) true (cond snap.overflowed (cond (nat_lt topmost snap.xmin) true (not (is_among topmost snap.xip))) (not (is_among x snap.xip || v)))) (among_is x snap.subxip)

pub answer_right : (snap : SnapData) (state : Option State) (topmost x : ℕ) (answer : Bool) → (Ascending snap.xip → Ascending snap.subxip → answer ≡ verdict snap state topmost x) → IsRight snap state topmost x answer
answer_right snap state topmost x answer same start lists more shown p by name parents k m grows is taken held read full oldest few climb =
    let legal = legal_take start.base (history lists) p k.events.legal in
    same (subst (λ (d : SnapData). Ascending d.xip) (sym held) (xips_ascend start.base (take p (history lists)) legal)) (subst (λ (d : SnapData). Ascending d.subxip) (sym held) (subs_ascend start.base (take p (history lists)) legal))
    ∙ is_right snap state topmost x start lists more shown p by name parents k m grows is taken held read full oldest few climb
