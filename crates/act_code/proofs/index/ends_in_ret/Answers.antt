use Rattle.std.proofs.Common.{◌<◌, ◌-◌, false, length, refl, ap, sym, ◌∙◌, arith}
use Rattle.std.specs.Option.{option_map_or}
use Rattle.std.proofs.lemmas.Option.{slice_get_read}
use Rattle.act_code.specs.Index.{is_ret}
use Rattle.act_code.proofs.index.ends_in_ret.Goals as goal

pub returns-in-len1-up : goal.returns-in-len1-up
returns-in-len1-up c =
    let actions = c.args.actions.now in
    let some = c.in-len1-up.len_at_least in
    let within : length actions - 1 < length actions = omega (arith, some) in
    c.is_ret.ensures ∙ ap (λ o. option_map_or is_ret o false) (sym (slice_get_read actions (length actions) (length actions - 1) c.last-item.result refl within c.last-item.is))
