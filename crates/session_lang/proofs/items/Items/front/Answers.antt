use Rattle.std.proofs.Common.{◌∙◌, ap, sym, take}
use Rattle.std.proofs.lemmas.List.{take-map}
use Rattle.session_lang.specs.Packed.{unpacked}
use Rattle.session_lang.proofs.items.Items.front.Goals as goal

pub returns : goal.returns
returns c =
    let i = c.self.inside in
    sym (take-map (unpacked i.apart.now) c.args.count i.packed.now) ∙ ap (take c.args.count) c.self.view_is
