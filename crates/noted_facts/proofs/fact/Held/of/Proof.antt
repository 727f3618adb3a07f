-- It owns nothing, so its value may be any, and the one that the clause speaks of is taken.
use Rattle.std.proofs.Common.{[], ◌∷◌, refl}
use Rattle.std.proofs.raw_atomic.Walks.{proved, leaves}
use mir.Syntax.{a_type, dcons, dnil, named}
use mir.Val.{Val, vptr, vstruct, vcons, vnil}
use mir.MapTy.{inst_fn}
use base.Logic.{SProp, emp}
use base.Fml.{Fml}
use contract.Monad.{fact, fact_i}
use contract.Running.{tables}
use types.Kit.{‵, raw, ◌⊛◌, ◌$◌, ◌∵◌, !, qed, by, fjoin, keep, move, split, use0}
use types.Run.{no_more, and_then, returns, enter}
use types.ByLocal.{alloc_all, pass_all, free_all, look_at, get, sets}
use types.Part.{agg}
use denote.RattleType.{RattleType, owns}
use denote.Signature.{types_at, plain}
use denote.Exit.{yes}
use denote.Builtin.{RefOf}
use denote.Ref.{shr_vals, shr_Tells}
use denote.Steps.{heard, nothing}
use denote.Param.{bounded, param}
use denote.Shadow.{makes_shadow}
use denote.Triple.Entry.{alive}
use denote.Triple.Walked.{Goes-dropped, Stays, stay_dropped, walk_of}
use Rattle.noted_facts.specs.contracts.fact.Held as held
use Rattle.noted_facts.specs.contracts.fact.Held.of.{ended, clauses}
use Rattle.noted_facts.specs.contracts.fact.Held.of.Key.{name as #self}
use Rattle.noted_facts.proofs.fact.Held.of.Statement.{statement}
use Rattle.noted_facts.proofs.fact.Held.of.Code as code

pub of_spec : {M : Type 1} → statement M
of_spec 𝓤 𝓛 𝓜 𝓡 wired V F B _ _ _ g d _ =
    let H = 𝓛.H in let 𝓣 = tables 𝓤 H 𝓜 𝓡 𝓡.env in let R : RattleType = param 0 V in let En = ended V F B g d in let c = clauses V F B g d 𝓛 𝓜.mem 𝓡.returns in
    let inst = bounded (a_type ∷ a_type ∷ a_type ∷ []) (V, (F, (B, tt))) (dcons d dnil) in let fn = inst_fn inst code.function in let closed = code.unfolded 𝓤 H 𝓜 𝓡 wired (V, (F, (B, tt))) d in let Hr : RattleType = held.the_row R in
    let about = RefOf (0 ∷ []) tt (plain (λ _. param 2 B)) (λ _. tt) in let hs : Stays En.signature.params En.kept = (stay_dropped about yes, tt) in
    proved 𝓛 En hs c 𝓜 𝓡 (Goes-dropped 𝓛 4 about yes (λ κs x f. refl), tt) (#self inst) fn closed (λ κs. (shr_vals, tt)) (λ κs. (shr_Tells (named 0) κs.0 (param 2 B), tt)) (λ κs qs bounds a gh are.
    let p : Val = vptr a.0.ref_ptr.0 a.0.ref_ptr.1 in let v : Val = vstruct (vcons (vstruct vnil) vnil) in
    let Asked : Type 0 = (value : V.Denot) × g.holds a.0.now value in
    let y : (walk_of 𝓛 En hs c).Ghost = ((κs, qs, bounds, a, (p ∷ [], tt)), gh) in let Post : Val → SProp 𝓤 = (walk_of 𝓛 En hs c).post y in
    qed 𝓛 ((raw (alive 𝓛 En.signature κs qs) ⊛ ‵ (owns (types_at En.signature.params κs) a y.0.4)) ∷ raw (fact 𝓤 _) ∷ raw (fact 𝓤 _) ∷ raw (fact 𝓤 _) ∷ raw (fact 𝓤 Asked) ∷ []) ∵
    move ! (4 ∷ []) $ heard ! Asked (λ asked.
    let r : Hr.Denot = record { marker = record {}; value = asked.0 } in let O : Fml = Hr.own_val r (v ∷ []) in let Told : Type 0 = g.holds a.0.now r.value in
    split ! $ keep ! (0 ∷ []) $
    enter ! 𝓣.C 𝓣.Λ fn (p ∷ []) Post $ alloc_all ! (λ l. pass_all ! refl ((tt, tt), tt) $
    sets ! (agg ! (no_more !)) refl (tt, tt) $ sets ! (agg ! (and_then ! (get ! refl) (no_more !))) refl (tt, (tt, tt)) $
    use0 𝓛 (‵ O) (makes_shadow 𝓛 O ((λ vss. (tt, ((λ uss. (tt, tt)), tt))), tt) (((vstruct vnil ∷ [], tt), (refl, ((tt, (refl, tt)), tt))), tt)) $
    use0 𝓛 (raw (fact 𝓤 Told)) (fact_i 𝓤 Told (emp 𝓤) asked.1) $ nothing ! $ nothing ! $ fjoin ! $
    returns ! (look_at ! 0 refl) $ free_all ! refl $ keep ! (3 ∷ 0 ∷ 2 ∷ 1 ∷ []) $ by ! (leaves 𝓛 En hs c y v r (tt, tt) (tt, tt)))))
