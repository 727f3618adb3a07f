use Rattle.std.proofs.Common.{◌≤◌, arith}
use Rattle.std.proofs.lemmas.List.Elements.{All-filter, All-weaker}
use Rattle.tx_events.specs.declared.event.Event.{Event}
use Rattle.tx_events.specs.Events.{by_of, is_of}
use Rattle.rule_tests.proofs.proc_driver.Driver.by.Goals as goal

pub returns-clause-turn : goal.returns-clause-turn
returns-clause-turn c =
    All-filter (is_of c.args.session) (λ (f : Event). (by_of f).command ≤ c.next_command-command.result) c.args.self.now.table.events
    (All-weaker (λ (f : Event). (by_of f).command ≤ c.args.self.now.command) (λ (f : Event). (by_of f).command ≤ c.next_command-command.result)
    (λ f k. let up = c.next_command-command.ensures in omega (arith, up, k)) c.args.self.now.table.events c.args.self.now.in_turn)
