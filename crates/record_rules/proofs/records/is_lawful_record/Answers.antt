use Rattle.std.proofs.Common.{take}
use Rattle.record_rules.proofs.Recording.{lawful_iff, sound_iff}
use Rattle.record_rules.proofs.records.is_lawful_record.Goals as goal

pub returns : goal.returns
returns g c =
    let w = c.requires.0.whole in
    lawful_iff g.j c.args.place c.args.rec.now c.is_record_at-says.result c.is_first-first.result c.is_sound_at-sound.result c.both.result c.both-2.result c.args.judging.now.broken
    c.is_record_at-says.ensures (c.is_first-first.ensures (take c.args.place g.j.life.recs) c.requires.1.0) c.is_sound_at-sound.ensures c.both.ensures c.both-2.ensures
    (sound_iff g.j.begun.counters g.j.life.recs c.args.judging.now.broken c.args.place w.bases w.broken c.requires.1.1.0 c.requires.1.1.1)
