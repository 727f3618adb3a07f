use Rattle.std.proofs.Common.{◌≡◌, ◌↔◌, ◌<◌, ◌≤◌, [], IsTrue, length, nat_lt, refl, ap, sym, subst, ◌∙◌, arith}
use Rattle.tx_events.specs.declared.record.Counters.{Counters}
use Rattle.tx_events.specs.Multis.{made, next_made, nth_multi}
use Rattle.tx_core.proofs.Rising.{made_more}
use Rattle.multi_sections.proofs.PinnedRaises.{below_most, count_is}
use Rattle.multi_sections.proofs.settling.is_few.Goals as goal

pub given_between-requires : goal.given_between-requires
given_between-requires c =
    let m = c.args.multis.now in
    let next : c.counters-now.result.multi ≡ next_made m.base.multi m.events = ap (λ (k : Counters). k.multi) c.counters-now.ensures.value in
    let first : c.args.base.now.multi ≡ m.base.multi = ap (λ (k : Counters). k.multi) c.requires in
    let up : m.base.multi ≤ next_made m.base.multi m.events = made_more m.base.multi [] m.events (m.events, refl) in
    omega arith

pub returns : goal.returns
returns c =
    let m = c.args.multis.now in
    let next : c.counters-now.result.multi ≡ next_made m.base.multi m.events = ap (λ (k : Counters). k.multi) c.counters-now.ensures.value in
    let first : c.args.base.now.multi ≡ m.base.multi = ap (λ (k : Counters). k.multi) c.requires in
    let there : nth_multi m.base.multi c.given_between.result ≡ next_made m.base.multi m.events = ap (λ n. nth_multi n c.given_between.result) (sym first) ∙ c.given_between.ensures ∙ next in
    let same : c.given_between.result ≡ length (made m.events) = count_is m.base.multi c.given_between.result (length (made m.events)) there in
    subst (λ n. IsTrue (nat_lt n 2900000) ↔ (length (made m.events) < 2900000)) (sym same) (below_most (length (made m.events)))
