use Rattle.std.proofs.Common.{ℕ, List, Option, None, ap, ◌∙◌, slice_index_or}
use Rattle.mod_catalog.proofs.Bearers.{ranked_here, ranked_other, ranked_unknown}
use Rattle.mod_catalog.proofs.ranks.Ranks.rank_of.Goals as goal

pub returns-in-Some : goal.returns-in-Some
returns-in-Some c = λ phase files list hold.
    c.place_at.ensures ∙ ap (λ (l : List (Option ℕ)). slice_index_or l c.in-Some.bearer.index None) c.as_slice.ensures
    ∙ ranked_here phase files list c.args.self.now c.args.file.now hold c.in-Some.bearer c.in-Some.ensures c.if-bearer-file.true

pub returns-in_default : goal.returns-in_default
returns-in_default c = λ phase files list hold. ranked_other phase files list c.args.self.now c.args.file.now hold c.in-Some.bearer c.in-Some.ensures c.if-bearer-file.false

pub returns-in_default-2 : goal.returns-in_default-2
returns-in_default-2 c = λ phase files list hold. ranked_unknown phase files list c.args.self.now c.args.file.now hold c.in_default.ensures
