use Rattle.std.proofs.Common.{◌≡◌, ◌↔◌, ℕ, List, [], length, false, IsTrue, sym, subst, ◌∙◌}
use Rattle.std.specs.List.{list_any}
use Rattle.tx_model.specs.declared.reply.Reply.{Reply}
use Rattle.report_law.specs.Dumps.{MayDump, Shows, is_faulty_step}
use Rattle.report_law.specs.Steps.{AreJudged}
use Rattle.dump_rules.proofs.Showing.{behind_is, page_bytes}
use Rattle.dump_rules.proofs.dumps.may_dump.Goals as goal

pub returns-else-is_log : goal.returns-else-is_log
returns-else-is_log g c =
    let bytes = c.in-Bytes.bytes in
    let r = page_bytes g.d.j g.d.before c.args.what c.args.at c.args.size bytes (sym c.is_log.ensures ∙ c.if-is_log.false) in
    let shown = subst (λ (bs : List ℕ). IsTrue c.may_show.result ↔ ((length bs ≡ c.args.size) × (list_any is_faulty_step g.d.j.steps ≡ false → AreJudged g.d.j g.d.before [] → Shows g.d.j g.d.before c.args.what c.args.at bs))) c.items-in-Bytes.ensures c.may_show.ensures in
    subst (λ (reply : Reply). IsTrue c.may_show.result ↔ MayDump g.d.j g.d.before c.args.what c.args.at c.args.size reply) (sym c.in-Bytes.is)
    (λ t. r.0 (shown.0 t), λ m. shown.1 (r.1 m))

pub returns-in-Cut : goal.returns-in-Cut
returns-in-Cut g c =
    let r = c.requires in
    subst (λ (reply : Reply). IsTrue c.may_cut.result ↔ MayDump g.d.j g.d.before c.args.what c.args.at c.args.size reply) (sym c.in-Cut.is)
    (c.may_cut.ensures g.d c.args.places.now.events r.0 r.1.1.1.1.1.1.1.0
    (λ t. let reach = r.1.1.1.1.1.1.1.1.0 t in
    (reach.0, behind_is g.d c.args.places.now.events c.args.place c.args.multis.now.events c.args.multi_place r.1.1.1.0 r.1.1.1.1.0 r.1.1.1.1.1.0 r.1.1.1.1.1.1.0 reach.0 reach.1)))
