-- A frame stands here and ends at the next place, or none does.
use Rattle.std.proofs.Common.{rules, ◌+◌, ◌-◌, ℕ, List, take, drop, arith}
use Rattle.std.proofs.lemmas.List.{take_rest}
use Rattle.tb_journal.specs.Frames.{head_of}
use Rattle.tb_journal.proofs.Showing.{same-bytes}
use Rattle.tb_journal.proofs.Walking.{passes_open, stops_at_head, stops_past_end}
use Rattle.tb_journal.proofs.walk.pass_frame.Goals as goal

pub returns-in_default-clause-err : goal.returns-in_default-clause-err
returns-in_default-clause-err g c =
    let d = g.D.Disk.disk in
    let past = (d c.args.disk.now).past in
    let form = c.args.form in
    let bytes = c.bytes_at-bytes.result.now in
    let shown = c.fill.new.self in
    let head : ℕ = 1 + c.head_size-before.result in
    let part : List ℕ = take head (drop (c.args.place - shown.from) shown.bytes) in
    let known = same-bytes past c.args.place head (1 + head_of form) part bytes
    (omega (arith, c.head_size-before.ensures)) c.bytes_at-bytes.ensures.bytes c.in_ok-fill.ensures.bytes in
    stops_at_head form c.args.ordinal c.args.place bytes past known _ (search rules) (search rules)
    (take_rest bytes 1) c.in_default.ensures.none

pub returns-then-frame-size-clause-err : goal.returns-then-frame-size-clause-err
returns-then-frame-size-clause-err g c =
    let d = g.D.Disk.disk in
    let past = (d c.args.disk.now).past in
    let form = c.args.form in
    let bytes = c.bytes_at-bytes.result.now in
    let shown = c.fill.new.self in
    let head : ℕ = 1 + c.head_size-before.result in
    let part : List ℕ = take head (drop (c.args.place - shown.from) shown.bytes) in
    let known = same-bytes past c.args.place head (1 + head_of form) part bytes
    (omega (arith, c.head_size-before.ensures)) c.bytes_at-bytes.ensures.bytes c.in_ok-fill.ensures.bytes in
    let payload : ℕ = c.in-Some.payload in
    stops_past_end form c.args.ordinal c.args.place bytes past known c.args.size payload _ c.requires.size
    c.requires.within (search rules) (search rules) (take_rest bytes 1) c.in-Some.ensures.found.0
    (omega (arith, c.head_size-before.ensures, c.if-frame-size.true))

pub returns-clause-found : goal.returns-clause-found
returns-clause-found g c =
    let d = g.D.Disk.disk in
    let past = (d c.args.disk.now).past in
    let form = c.args.form in
    let bytes = c.bytes_at-bytes.result.now in
    let shown = c.fill.new.self in
    let head : ℕ = 1 + c.head_size-before.result in
    let part : List ℕ = take head (drop (c.args.place - shown.from) shown.bytes) in
    let known = same-bytes past c.args.place head (1 + head_of form) part bytes
    (omega (arith, c.head_size-before.ensures)) c.bytes_at-bytes.ensures.bytes c.in_ok-fill.ensures.bytes in
    let found = c.in-Some.ensures.found in
    passes_open form c.args.ordinal c.args.place bytes past known c.args.size c.in-Some.payload _ _ c.requires.size
    (search rules) (search rules) (take_rest bytes 1) c.in-Some.ensures.spelled found.1 found.2
    (omega (arith, c.head_size-before.ensures))
    (omega (arith, c.head_size-before.ensures, c.if-frame-size.false, c.requires.within))
