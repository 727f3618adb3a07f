-- The members of a multixact as words.
use Rattle.std.specs.Prelude.{ℕ, List, ◌∷◌, ◌++◌, codes, map}
use Rattle.std.specs.Fmt.{decimal}
use Rattle.report_text.specs.Words.{colon}
use Rattle.tx_events.specs.declared.multi.Mode.{Mode}
use Rattle.tx_events.specs.declared.multi.Mode.TheVariants as modes
use Rattle.tx_events.specs.declared.multi.Member.{Member}
use Rattle.tx_model.specs.declared.command.Pair.{Pair}
use Rattle.tx_model.specs.declared.reply.Verdict.{Verdict}
use Rattle.tx_model.specs.declared.reply.Verdict.TheVariants as verdicts
use Rattle.tx_model.specs.declared.reply.MemberVerdict.{MemberVerdict}

unfoldable pub mode_word : Mode → List ℕ
mode_word modes.KeySh = codes "keysh"
mode_word modes.Sh = codes "sh"
mode_word modes.ForNoKeyUpd = codes "fornokeyupd"
mode_word modes.ForUpd = codes "forupd"
mode_word modes.NoKeyUpd = codes "nokeyupd"
mode_word modes.Upd = codes "upd"

unfoldable pub verdict_word : Verdict → List ℕ
verdict_word verdicts.Visible = codes "visible"
verdict_word verdicts.Hidden = codes "hidden"
verdict_word verdicts.TooOld = codes "too-old"

-- ID:MODE
unfoldable pub id_word : ℕ → Mode → List ℕ
id_word id mode = decimal id ++ colon ∷ mode_word mode

unfoldable pub pair_word : Pair → List ℕ
pair_word p = id_word p.x.number p.mode

abbrev pub member_word : Member → List ℕ
member_word m = id_word m.id m.mode

-- ID:MODE:VERDICT
unfoldable pub member_verdict_word : MemberVerdict → List ℕ
member_verdict_word v = id_word v.id v.mode ++ colon ∷ verdict_word v.verdict

abbrev pub pair_words : List Pair → List (List ℕ)
pair_words pairs = map pair_word pairs

abbrev pub member_words : List Member → List (List ℕ)
member_words members = map member_word members

abbrev pub member_verdict_words : List MemberVerdict → List (List ℕ)
member_verdict_words list = map member_verdict_word list
