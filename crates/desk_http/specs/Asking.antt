-- What a client asks of a service, byte by byte.
use Rattle.std.specs.Prelude.{◌++◌, ◌||◌, ℕ, Bool, true, false, List, [], length, codes, decimal, Option, Some, None}
use Rattle.std.specs.Borrow.{Bor}
use Rattle.percent_encoding.specs.Percent.{percent_encode}
use Rattle.percent_encoding.specs.declared.ascii_set.TheConstants.{NON_ALPHANUMERIC}
use Rattle.desk_http.specs.AccessRules.{AccessRules, port_part}
use Rattle.desk_http.specs.Responses.{crlf, line}
use Rattle.desk_http.specs.declared.query.LineWords.{LineWords}
use Rattle.desk_http.specs.declared.query.ListWords.{ListWords}
use Rattle.desk_http.specs.declared.question.Question.{Question}
use Rattle.desk_http.specs.declared.question.Question.TheVariants as question

-- ---- the target

-- what is said of lines
abbrev pub said_of_lines : Bool → Bool → List ℕ
said_of_lines false false = []
said_of_lines true false = codes "?stop"
said_of_lines false true = codes "?check"
said_of_lines true true = codes "?stop&check"

abbrev pub said_of_file : Bool → List ℕ
said_of_file false = []
said_of_file true = codes "?loose"

-- what is said of a list without an amount
abbrev pub said_of_list : Bool → Bool → List ℕ
said_of_list false false = []
said_of_list true false = codes "?csv"
said_of_list false true = codes "?open"
said_of_list true true = codes "?csv&open"

abbrev pub low_mark : Bool → List ℕ
low_mark false = codes "?low="
low_mark true = codes "&low="

-- the amount, where something was said before it or not
abbrev pub low_part : Bool → Option ℕ → List ℕ
low_part before None = []
low_part before (Some amount) = low_mark before ++ decimal amount

-- the word of a list, in which each byte but letters and digits of ASCII is escaped
abbrev pub word_part : Option (Bor (List ℕ)) → List ℕ
word_part None = []
word_part (Some word) = codes "/" ++ percent_encode NON_ALPHANUMERIC word.now

abbrev pub lines_target : LineWords → List ℕ
lines_target said = codes "/lines" ++ said_of_lines said.stop said.check

abbrev pub file_target : Bool → List ℕ → List ℕ → List ℕ → List ℕ
file_target loose kind document day =
    codes "/import/" ++ kind ++ codes "/" ++ document ++ codes "/" ++ day ++ said_of_file loose

abbrev pub report_target : List ℕ → ℕ → List ℕ
report_target name number = codes "/report/" ++ name ++ codes "/" ++ decimal number

abbrev pub list_target : List ℕ → Option (Bor (List ℕ)) → ListWords → List ℕ
list_target list word said =
    codes "/show/" ++ list ++ word_part word ++ said_of_list said.csv said.only_open
    ++ low_part (said.csv || said.only_open) said.low

abbrev pub target_of : Question → List ℕ
target_of (question.Lines said) = lines_target said
target_of (question.Import loose kind document day) = file_target loose kind.now document.now day.now
target_of (question.Report name number) = report_target name.now number
target_of (question.Export table) = codes "/export/" ++ table.now
target_of (question.Show list word said) = list_target list.now word said
target_of question.Dump = codes "/dump"
target_of question.Stop = codes "/stop"

-- ---- the whole request

-- something is done, and not only read
abbrev pub is_done : Question → Bool
is_done (question.Lines said) = true
is_done (question.Import loose kind document day) = true
is_done (question.Report name number) = false
is_done (question.Export table) = false
is_done (question.Show list word said) = false
is_done question.Dump = false
is_done question.Stop = true

abbrev pub method_part : Bool → List ℕ
method_part true = codes "POST "
method_part false = codes "GET "

abbrev pub token_line : Option (List ℕ) → List ℕ
token_line None = []
token_line (Some token) = line (codes "Authorization: Bearer ") token

-- how long the body is, where there may be one
abbrev pub length_line : Bool → ℕ → List ℕ
length_line true count = line (codes "Content-Length: ") (decimal count)
length_line false count = []

abbrev pub request_head : AccessRules → Question → ℕ → List ℕ
request_head rules q count =
    method_part (is_done q) ++ target_of q ++ line (codes " HTTP/1.1") []
    ++ line (codes "Host: 127.0.0.1") (port_part rules.port) ++ token_line rules.token
    ++ length_line (is_done q) count ++ line (codes "Connection: close") [] ++ crlf

-- a head, and a body as long as it says: of what is only read there is none
abbrev pub request_bytes : AccessRules → Question → List ℕ → List ℕ
request_bytes rules q body = request_head rules q (length body) ++ body
