use Rattle.std.proofs.Common.{◌≡◌, ◌/◌, List, ℕ, OnOk, take, ap, subst, ◌∙◌}
use Rattle.std.specs.Io.KnownBytes.{Appends}
use Rattle.requests.specs.Parts.{coded_table}
use Rattle.requests.proofs.output.table.Goals as goal

pub returns : goal.returns
returns g c =
    let numbers = c.args.numbers.now in
    let size = c.spread-size in
    let value : take size.result size.new.space ≡ coded_table (take 16384 numbers) =
    size.ensures.value ∙ ap (λ n. coded_table (take (n / 2) numbers)) size.auto.space
    in
    subst (λ (bytes : List ℕ). OnOk c.write_all.result
    (Appends (g.W.Write.contents c.args.to.now) (g.W.Write.contents c.write_all.new.self) bytes)) value c.write_all.ensures.bytes
