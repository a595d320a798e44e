use Rattle.std.proofs.Common.{◌≡◌, ◌+◌, List, ℕ, Option, ◌∙◌, take, drop, subst}
use Rattle.boot_model.specs.declared.line.Line.{Line}
use Rattle.boot_core.specs.Reading.{IsRead, IsLongFile, IsLongVolume, IsReached, Reaches}
use Rattle.boot_core.proofs.PlanImages.{split_at, image_more, lacks_up}
use Rattle.boot_core.proofs.plan_files.job.read_volumes.Goals as goal

pub returns-in-Err-clause-row : goal.returns-in-Err-clause-row
returns-in-Err-clause-row g c =
    let F = g.F.Files.faults in
    let volumes = c.args.volumes.now in
    let i = c.volumes.volume-index in
    let volume = c.volume-item.result in
    let told = g.F.Files.told c.args.files.now in
    let mid = g.F.Files.told c.volumes.files in
    let name = c.text_of-name.result.now in
    let named : name ≡ volume.name = c.text_of-name.ensures ∙ c.as_slice.ensures in
    let reached : Reaches told volumes volume = record { before = take i volumes; behind = drop (i + 1) volumes; images = c.volumes.images; these = split_at volumes i volume c.volumes-test.true c.volume-item.is; read = c.volumes.invariant.read } in
    let P : Option (List ℕ) → List ℕ → Line → Type 0 = λ t n line. IsLongFile t 0x4000000 n line in
    let up : (line : Line) → P (mid name) name line → IsLongVolume told volumes line = λ line long.
    let here = subst (λ n. P (mid n) n line) named long in
    record { volume = volume; reached = reached; long = subst (λ t. P t volume.name line) (c.volumes.invariant.same volume.name) here } in
    let names : (n : List ℕ) → n ≡ name → IsReached told volumes n = λ n e. record { volume = volume; reached = reached; is = e ∙ named } in
    lacks_up (P (mid name) name) (IsLongVolume told volumes) (λ n. n ≡ name) (IsReached told volumes) (F c.args.files.now) (F c.volumes.files) (F c.read_file.new.files) (g.F.Files.missed c.read_file.new.files)
    c.in-Err.no_image up names c.volumes.invariant.count c.in-Err.ensures.row

pub volumes-preserved : goal.volumes-preserved
volumes-preserved g c =
    let told = g.F.Files.told c.args.files.now in
    let mid = g.F.Files.told c.volumes.files in
    let volumes = c.args.volumes.now in
    let volume = c.volume-item.result in
    let name = c.text_of-name.result.now in
    let named : name ≡ volume.name = c.text_of-name.ensures ∙ c.as_slice.ensures in
    let image = c.in-Ok.image in
    let here = subst (λ n. IsRead (mid n) 0x4000000 image) named c.in-Ok.ensures.row.0 in
    let read = subst (λ t. IsRead t 0x4000000 image) (c.volumes.invariant.same volume.name) here in
    let more = image_more told volumes c.volumes.volume-index volume c.volumes.images image c.volumes-test.true c.volume-item.is c.volumes.invariant.read read in
    record {
      same = λ other. c.in-Ok.ensures.same other ∙ c.volumes.invariant.same other;
      count = c.in-Ok.ensures.row.1 ∙ c.volumes.invariant.count;
      read = rw c.in_ok-push-in-Ok.ensures.ok more;
    }
