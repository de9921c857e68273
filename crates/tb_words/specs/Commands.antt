-- The command set: which words each command is.
use Rattle.std.specs.Prelude.{◌≡◌, ◌≤◌, ◌<◌, ◌^◌, List, [], ◌∷◌, ◌++◌, length, Bool}
use Rattle.std.specs.Prelude.{true, false, ⊤, if◌then◌else◌, codes, Option, Some, None, IfSome}
use Rattle.std.specs.List.{list_all}
use Rattle.std.specs.Fmt.{decimal}
use Rattle.tb_units.specs.Names.{is_name}
use Rattle.tb_terms.specs.Cusips.{is_cusip_byte}
use Rattle.tb_terms.specs.declared.cusip.Cusip.{Cusip}
use Rattle.tb_message.specs.declared.key.Key.{Key}
use Rattle.tb_message.specs.declared.key.Key.TheVariants as key
use Rattle.tb_message.specs.declared.query.Query.{Query}
use Rattle.tb_message.specs.declared.query.Query.TheVariants as query
use Rattle.tb_message.specs.Queries.{query_text, query_kind_of}
use Rattle.tb_words.specs.declared.command.Command.{Command}
use Rattle.tb_words.specs.declared.command.Command.TheVariants as command
use Rattle.tb_words.specs.Items.{Text, Item, items_of}
use Rattle.tb_words.specs.Lines.{Line, Says}

-- a key word: a submitter's is its name, the operator's has `op:` in front
abbrev pub key_text : Key → Text
key_text (key.Submitter name) = name
key_text (key.Operator name) = codes "op:" ++ name

abbrev pub IsKey : Key → Type 0
IsKey (key.Submitter name) = is_name name ≡ true
IsKey (key.Operator name) = is_name name ≡ true

-- what stands behind the kind of a query
abbrev pub named_in : Query → List Text
named_in (query.Terms auction) = auction ∷ []
named_in (query.Results auction) = auction ∷ []
named_in (query.Awards auction) = auction ∷ []
named_in (query.Bids auction) = auction ∷ []
named_in query.Holdings = []
named_in (query.Redemption bill) = bill.bytes ∷ []
named_in query.Funds = []

-- the kind of a query, and the auction's name or the nine bytes of a CUSIP
abbrev pub query_words : Query → List Text
query_words asked = query_text (query_kind_of asked) ∷ named_in asked

-- funds are no kind of report
abbrev pub IsQuery : Query → Type 0
IsQuery (query.Terms auction) = is_name auction ≡ true
IsQuery (query.Results auction) = is_name auction ≡ true
IsQuery (query.Awards auction) = is_name auction ≡ true
IsQuery (query.Bids auction) = is_name auction ≡ true
IsQuery query.Holdings = ⊤
IsQuery (query.Redemption bill) = length bill.bytes ≡ 9
IsQuery query.Funds = ⊥

-- awards and holdings are also told as a table
abbrev pub has_table : Query → Bool
has_table (query.Terms auction) = false
has_table (query.Results auction) = false
has_table (query.Awards auction) = true
has_table (query.Bids auction) = false
has_table query.Holdings = true
has_table (query.Redemption bill) = false
has_table query.Funds = false

-- a CUSIP of nine digits and capital letters; its check digit isn't looked at
abbrev pub IsBill : Cusip → Type 0
IsBill bill = (length bill.bytes ≡ 9) × (list_all is_cusip_byte bill.bytes ≡ true)

-- the option that names a bill, where one is named
abbrev pub bill_option : Option Cusip → List (Text × Text)
bill_option None = []
bill_option (Some bill) = (codes "--cusip", bill.bytes) ∷ []

-- the first word of a command
abbrev pub name_of : Command → Text
name_of (command.Award full) = codes "award"
name_of (command.Run operator) = codes "run"
name_of (command.Serve operator port workers links) = codes "serve"
name_of (command.Import operator caller) = codes "import"
name_of (command.Report operator caller asked csv) = codes "report"
name_of command.Migrate = codes "migrate"
name_of command.Check = codes "check"
name_of (command.FollowSend from) = codes "follow"
name_of command.FollowTake = codes "follow"
name_of (command.Register cusip) = codes "register"
name_of (command.Trial seed count) = codes "trial"

-- what stands behind it
abbrev pub line_of : Command → Line
line_of (command.Award full) = record { places = if full then codes "full" ∷ [] else []; options = []; csv = false }
line_of (command.Run operator) = record { places = []; options = (codes "--op", operator) ∷ []; csv = false }
line_of (command.Serve operator port workers links) = record {
  places = [];
  options =
      (codes "--op", operator) ∷ (codes "--port", decimal port) ∷ (codes "--workers", decimal workers)
      ∷ (codes "--links", decimal links) ∷ [];
  csv = false;
}
line_of (command.Import operator caller) = record {
  places = [];
  options = (codes "--op", operator) ∷ (codes "--key", key_text caller) ∷ [];
  csv = false;
}
line_of (command.Report operator caller asked csv) = record {
  places = query_words asked;
  options = (codes "--op", operator) ∷ (codes "--key", key_text caller) ∷ [];
  csv = csv;
}
line_of command.Migrate = record { places = []; options = []; csv = false }
line_of command.Check = record { places = []; options = []; csv = false }
line_of (command.FollowSend from) = record { places = codes "send" ∷ decimal from ∷ []; options = []; csv = false }
line_of command.FollowTake = record { places = codes "take" ∷ []; options = []; csv = false }
line_of (command.Register cusip) = record { places = []; options = bill_option cusip; csv = false }
line_of (command.Trial seed count) = record { places = decimal seed ∷ decimal count ∷ []; options = []; csv = false }

-- names are names, numbers are in their ranges, and a table is asked for where there is one
abbrev pub IsInRange : Command → Type 0
IsInRange (command.Award full) = ⊤
IsInRange (command.Run operator) = is_name operator ≡ true
IsInRange (command.Serve operator port workers links) =
    (is_name operator ≡ true)
    × ((1 ≤ port) × (port ≤ 65535))
    × ((1 ≤ workers) × (workers ≤ 64))
    × ((1 ≤ links) × (links ≤ 10 ^ 6))
IsInRange (command.Import operator caller) = (is_name operator ≡ true) × IsKey caller
IsInRange (command.Report operator caller asked csv) =
    (is_name operator ≡ true) × IsKey caller × IsQuery asked × (csv ≡ true → has_table asked ≡ true)
IsInRange command.Migrate = ⊤
IsInRange command.Check = ⊤
IsInRange (command.FollowSend from) = from < 2 ^ 64
IsInRange command.FollowTake = ⊤
IsInRange (command.Register cusip) = IfSome cusip IsBill
IsInRange (command.Trial seed count) = (seed < 2 ^ 64) × ((1 ≤ count) × (count ≤ 10 ^ 6))

-- the items behind the command's name are those of the command, whose values are in their ranges
pub record Spells (said : Command) (items : List Item) : Type 0 where
  pub in_range : IsInRange said
  pub line : Says (line_of said) items

-- the words are this command
abbrev pub AreWordsOf : Command → List Text → Type 0
AreWordsOf said words = (rest : List Text) × (words ≡ name_of said ∷ rest) × Spells said (items_of rest)

-- the words are inside the command set
abbrev pub AreCommand : List Text → Type 0
AreCommand words = (said : Command) × AreWordsOf said words
