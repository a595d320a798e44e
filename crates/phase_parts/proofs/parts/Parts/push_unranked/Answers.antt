use Rattle.std.proofs.Common.{◌++◌, ◌≤◌, ◌∙◌, List, ℕ, ap, length, subst, sym}
use Rattle.mod_catalog.specs.declared.limits.TheConstants.{MOST_MODULES}
use Rattle.phase_parts.proofs.VolumeParts.{unranked_are}
use Rattle.phase_parts.proofs.parts.Parts.push_unranked.Goals as goal

pub push_wanted-requires : goal.push_wanted-requires
push_wanted-requires c =
    let others = unranked_are c.args.phase c.args.catalog.now c.args.volume in
    record { few = c.requires.few; room = subst (λ (xs : List ℕ). length (c.args.self.now ++ xs) ≤ MOST_MODULES) (sym others) c.requires.room }

pub returns : goal.returns
returns c = c.push_wanted.ensures ∙ ap (λ xs. c.args.self.now ++ xs) (unranked_are c.args.phase c.args.catalog.now c.args.volume)
