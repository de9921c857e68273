-- The bytes of replies (RFC 9112, section 4).
use Rattle.std.specs.Prelude.{ℕ, List, [], ◌∷◌, ◌++◌, length, Bool, true, false, Option, Some, None, codes}
use Rattle.std.specs.Fmt.{decimal}
use Rattle.tb_wire.specs.declared.replies.Allow.{Allow}
use Rattle.tb_wire.specs.declared.replies.Allow.TheVariants.{Get, Post}
use Rattle.tb_wire.specs.Codes.{phrase_of}

-- the end of a line
abbrev pub crlf : List ℕ
crlf = 13 ∷ 10 ∷ []

abbrev pub status_line : ℕ → List ℕ
status_line code = codes "HTTP/1.1 " ++ (decimal code ++ (codes " " ++ (phrase_of code ++ crlf)))

abbrev pub content_lines : ℕ → List ℕ
content_lines size = codes "Content-Type: text/plain" ++ (crlf ++ (codes "Content-Length: " ++ (decimal size ++ crlf)))

-- the one method that the path is served by
abbrev pub allow_line : Option Allow → List ℕ
allow_line None = []
allow_line (Some Get) = codes "Allow: GET" ++ crlf
allow_line (Some Post) = codes "Allow: POST" ++ crlf

abbrev pub close_line : Bool → List ℕ
close_line true = codes "Connection: close" ++ crlf
close_line false = []

-- the head of a reply with a body of so many bytes
abbrev pub head_text : ℕ → ℕ → Option Allow → Bool → List ℕ
head_text code size allow close =
    status_line code ++ (content_lines size ++ (allow_line allow ++ (close_line close ++ crlf)))

-- a reply
abbrev pub rendered : ℕ → List ℕ → Option Allow → Bool → List ℕ
rendered code body allow close = head_text code (length body) allow close ++ body

-- what a bad front is answered, by its code; then the link closes
abbrev pub bad_front : ℕ → List ℕ
bad_front code = rendered code (codes "bad request" ++ 10 ∷ []) None true

-- at a fault of the disk, and at want of memory, when the link closes
abbrev pub disk_fault : Bool → List ℕ
disk_fault close = rendered 503 (codes "unavailable DiskFault" ++ 10 ∷ []) None close

abbrev pub no_memory : List ℕ
no_memory = rendered 507 (codes "unavailable OutOfMemory" ++ 10 ∷ []) None true
