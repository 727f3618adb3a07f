use Rattle.std.proofs.Common.{List, ℕ, ◌++◌, ◌∷◌, ◌∙◌, ◌≡◌, [], ap, rules, subst, sym}
use Rattle.tx_events.proofs.Membership.{Has, has_left, has_right}
use Rattle.tx_events.specs.LifeBase.{committed_by}
use Rattle.replay_core.specs.Redo.{IsNamed, RedoesBank}
use Rattle.replay_core.proofs.Redoing.{both_redone, failed_wider, named_cases, named_in, near_in}
use Rattle.replay_core.proofs.redo.redo_record.Goals as goal

pub redo_named-requires-clause-near : goal.redo_named-requires-clause-near
redo_named-requires-clause-near g c =
    let top : ℕ = c.in-Commit.top in
    let whole : committed_by c.args.rec.now ≡ c.in-Commit.top ∷ c.in-Commit.subs = ap committed_by c.in-Commit.is in
    near_in c.args.oldest (top ∷ []) (committed_by c.args.rec.now) (λ y h. subst (λ (t : List ℕ). Has t y) (sym whole) (has_left (top ∷ []) c.in-Commit.subs y h)) c.requires.near

pub returns-in_err-redo_named : goal.returns-in_err-redo_named
returns-in_err-redo_named g c =
    let top : ℕ = c.in-Commit.top in
    let whole : committed_by c.args.rec.now ≡ c.in-Commit.top ∷ c.in-Commit.subs = ap committed_by c.in-Commit.is in
    let all = failed_wider (IsNamed c.args.share.now c.args.oldest (top ∷ [])) (IsNamed c.args.share.now c.args.oldest (committed_by c.args.rec.now)) c.args.bank.now c.redo_named.new.bank _
    (named_in c.args.share.now c.args.oldest (top ∷ []) (committed_by c.args.rec.now) (λ y h. subst (λ (t : List ℕ). Has t y) (sym whole) (has_left (top ∷ []) c.in-Commit.subs y h))) c.in_err-redo_named.ensures in
    search (rules, all)

pub redo_ids-requires-clause-near : goal.redo_ids-requires-clause-near
redo_ids-requires-clause-near g c =
    let whole : committed_by c.args.rec.now ≡ (c.in-Commit.top ∷ []) ++ c.items.result.now = ap committed_by c.in-Commit.is ∙ ap (λ (t : List ℕ). c.in-Commit.top ∷ t) (sym c.items.ensures) in
    near_in c.args.oldest c.items.result.now (committed_by c.args.rec.now) (λ y h. subst (λ (t : List ℕ). Has t y) (sym whole) (has_right (c.in-Commit.top ∷ []) c.items.result.now y h)) c.requires.near

pub returns : goal.returns
returns g c =
    let top : ℕ = c.in-Commit.top in let subs : List ℕ = c.items.result.now in
    let whole : committed_by c.args.rec.now ≡ (top ∷ []) ++ subs = ap committed_by c.in-Commit.is ∙ ap (λ (t : List ℕ). c.in-Commit.top ∷ t) (sym c.items.ensures) in
    subst (λ (t : List ℕ). RedoesBank (IsNamed c.args.share.now c.args.oldest t) c.args.bank.now c.redo_ids.new.bank c.redo_ids.result) (sym whole)
    (both_redone (IsNamed c.args.share.now c.args.oldest (top ∷ [])) (IsNamed c.args.share.now c.args.oldest subs) (IsNamed c.args.share.now c.args.oldest ((top ∷ []) ++ subs)) c.args.bank.now c.redo_named.new.bank c.redo_ids.new.bank
    (named_in c.args.share.now c.args.oldest (top ∷ []) ((top ∷ []) ++ subs) (λ y h. has_left (top ∷ []) subs y h)) (named_in c.args.share.now c.args.oldest subs ((top ∷ []) ++ subs) (λ y h. has_right (top ∷ []) subs y h))
    c.in_ok-redo_named.ensures c.redo_ids.result (named_cases c.args.share.now c.args.oldest (top ∷ []) subs) c.redo_ids.ensures)
