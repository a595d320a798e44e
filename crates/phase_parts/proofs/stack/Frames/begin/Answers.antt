use Rattle.std.proofs.Common.{◌<◌, [], ◌∷◌, ◌∙◌, ap, sym, subst, length, arith, reverse}
use Rattle.std.proofs.lemmas.List.{length-reverse, reverse-append}
use Rattle.phase_parts.proofs.stack.Frames.begin.Goals as goal

pub push-requires : goal.push-requires
push-requires g c = (grind arith, subst (λ n. n < 64) (ap length (sym c.self.view_is) ∙ length-reverse c.self.inside.items.items) c.requires)

pub returns : goal.returns
returns g c = ap reverse c.push.ensures.items ∙ reverse-append c.self.inside.items.items (c.args.frame ∷ []) ∙ ap (λ below. c.args.frame ∷ below) c.self.view_is
