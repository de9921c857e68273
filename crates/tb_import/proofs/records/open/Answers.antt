use Rattle.std.proofs.Common.{◌∙◌, sym, refl, inr}
use Rattle.csv.specs.Reading.{Reached, strip_bom}
use Rattle.tb_import.proofs.records.open.Goals as goal

pub returns : goal.returns
unfolding Reached
returns c =
    let made = c.from_reader.ensures in
    let flexible = c.flexible.ensures in
    let headers = c.has_headers.ensures in
    record {
      untrimmed = rw (flexible, headers) at made.trim ∙ c.new.ensures.trim;
      ready = inr (inr (rw (flexible, headers) at made.has_headers, made.headers));
      plain = rw (flexible, headers) at made.config ∙ c.new.ensures.config;
      left = strip_bom c.args.bytes.now;
      source = made.source;
      reached = (sym made.state, refl);
    }
