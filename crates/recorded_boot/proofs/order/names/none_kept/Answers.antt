use Rattle.std.proofs.Common.{◌≡◌, ◌+◌, ℕ, Bool, true, if◌then◌else◌, List, [], ◌∷◌, ◌++◌, length, length-append, sym, ap, subst, ◌∙◌}
use Rattle.pi_base.specs.{declared.guid.Guid.Guid, Lists.Each}
use Rattle.pi_base.proofs.ListFacts.{each_append}
use Rattle.recorded_boot.specs.Taking.{NoneIsKept}
use Rattle.recorded_boot.proofs.order.names.none_kept.Goals as goal

-- one more map in which nothing is kept
one_more : (count : ℕ) (maps new : List (List (Guid × ℕ))) (map : List (Guid × ℕ)) (ok : Bool) → NoneIsKept count maps → map ≡ []
    → new ≡ (if ok then maps ++ map ∷ [] else maps) → ok ≡ true
    → NoneIsKept (count + 1) new
one_more count maps new map ok so_far is items pushed =
    let None : List (Guid × ℕ) → Type 0 = λ map. map ≡ [] in
    let all : new ≡ maps ++ map ∷ [] = items ∙ ap (λ ok. if ok then maps ++ map ∷ [] else maps) pushed in
    record {
      volumes = ap length all ∙ length-append maps (map ∷ []) ∙ ap (λ n. n + 1) so_far.volumes;
      none = subst (Each None) (sym all) (each_append None maps (map ∷ []) so_far.none (is, tt));
    }

pub volumes-preserved : goal.volumes-preserved
volumes-preserved c = one_more c.volumes.counter c.volumes.maps.items c.push.new.self.items c.new.result _ c.volumes.invariant
    c.new.ensures c.push.ensures.items c.if-is_err.ensures.negation
