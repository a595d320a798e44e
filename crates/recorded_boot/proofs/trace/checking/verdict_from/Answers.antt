use Rattle.std.proofs.Common.{◌<◌, ◌≤◌, ◌^◌, ◌-◌, ℕ, List, length, Result, Ok, Err, arith, subst, sym}
use Rattle.boot_model.specs.{FreeRun.AreFreeLines, declared.line.Line.Line}
use Rattle.recorded_boot.specs.declared.trace.parted.Parted.{Parted}
use Rattle.recorded_boot.specs.declared.trace.parted.Parted.TheVariants.{Off, Memory}
use Rattle.recorded_boot.specs.{declared.trace.spelled.Spelled.Spelled, FollowingText.Follows, FollowingText.IsShort}
use Rattle.recorded_boot.proofs.trace.checking.verdict_from.Goals as goal

-- what was followed along is the text
short : (Lines : List Line → Type 0) (text : List ℕ) (s : Spelled) (followed : Result (Unit {0}) Parted) → length text ≤ 0x4000000 → Follows Lines text s followed → IsShort s followed
short Lines text s (Ok u) le h = subst (λ t. length t < 2 ^ 32 - 1) (sym h.held.whole_is) (omega (arith, le))
short Lines text s (Err Off) le h = subst (λ t. length t < 2 ^ 32 - 1) (sym h.whole_is) (omega (arith, le))
short Lines text s (Err Memory) le h = tt

pub follow_boot-followed-requires-clause-opening : goal.follow_boot-followed-requires-clause-opening
follow_boot-followed-requires-clause-opening g c = c.requires.opening

pub verdict_of-requires : goal.verdict_of-requires
verdict_of-requires g c =
    let few = subst (λ t. length t ≤ 0x4000000) (sym c.new-spelled.ensures.whole) c.requires.text in
    let opening = c.requires.opening in
    record { few = short _ _ c.follow_boot-followed.new.text c.follow_boot-followed.result few (c.follow_boot-followed.ensures.row opening.0 opening.1) }

pub returns : goal.returns
returns g c board here =
    let Lines : List Line → Type 0 = AreFreeLines board c.args.catalog.now c.args.fuel in
    let P : List ℕ → Type 0 = λ t. Follows Lines t c.follow_boot-followed.new.text c.follow_boot-followed.result in
    c.verdict_of.ensures board c.args.catalog.now c.args.fuel c.args.text.now (subst P c.new-spelled.ensures.whole (c.follow_boot-followed.ensures.row board here))
