use Rattle.std.proofs.Common.{◌≡◌, ◌∙◌, ap, replicate, length, vec_len, arith}
use Rattle.session_lang.proofs.StepLemmas.{end_round}
use Rattle.session_lang.proofs.parser.reading.Reading.end_round.Goals as goal

pub returns-clause-so_far : goal.returns-clause-so_far
returns-clause-so_far c =
    let s = c.args.self.now in
    let e : vec_len s.commands ≡ length s.commands.items = omega arith in
    end_round c.push_directive.result s.front.names s.commands.items s.front.items c.args.directive _ _ c.requires.so_far (c.fill.ensures.items (λ y e. e) ∙ ap (λ n. replicate n 0) e) c.push_directive.ensures
