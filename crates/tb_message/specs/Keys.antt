-- Key words of callers (our choice).
use Rattle.std.specs.Prelude.{ℕ, List, take, drop, Option, if◌then◌else◌, codes}
use Rattle.std.specs.Option.{option_map}
use Rattle.std.specs.Str.{bytes_eq}
use Rattle.tb_units.specs.Names.{name_of}
use Rattle.tb_message.specs.declared.key.Key.{Key}
use Rattle.tb_message.specs.declared.key.Key.TheVariants as key

-- the key that a text says: a name is a submitter's, `op:` and a name the operator's
abbrev pub key_of : List ℕ → Option Key
key_of text =
    if bytes_eq (take 3 text) (codes "op:") then option_map key.Operator (name_of (drop 3 text))
    else option_map key.Submitter (name_of text)
