-- That a service knows its token, without telling it: a client says a text that was never said before, and is answered
-- what only a program can work out that knows the token.
use Rattle.std.specs.Prelude.{◌++◌, ◌||◌, ◌==◌, ◌&&◌, nat_eq, nat_le, nat_lt, ℕ, Bool, List, [], length, take, drop}
use Rattle.std.specs.Prelude.{map, replicate, bit_xor, codes, decimal, Option, Some, None, if◌then◌else◌}
use Rattle.std.specs.List.{list_all, starts_with}
use Rattle.std.specs.Char.{is_ascii_alphanumeric}
use Rattle.hex.specs.Hex.{encode_lower}
use Rattle.sha2.specs.Sha256.{sha256}
use Rattle.desk_http.specs.AccessRules.{AccessRules}
use Rattle.desk_http.specs.Sites.{PageView, SiteRules}
use Rattle.desk_http.specs.Targets.{where_it}

-- ---- HMAC over SHA-256, as RFC 2104 has it

-- a key that is longer than a block, of 64 bytes, stands for its digest
abbrev pub short_key : List ℕ → List ℕ
short_key key = if nat_lt 64 (length key) then sha256 key else key

-- a block: the key, and zeros behind it
abbrev pub block_of : List ℕ → List ℕ
block_of key = take 64 (short_key key ++ replicate 64 0)

abbrev pub masked : ℕ → List ℕ → List ℕ
masked mask bytes = map (λ b. bit_xor b mask) bytes

abbrev pub hmac : List ℕ → List ℕ → List ℕ
hmac key message = sha256 (masked 0x5C (block_of key) ++ sha256 (masked 0x36 (block_of key) ++ message))

-- ---- what is said, and the proof

-- a letter, a digit, a - or a _
abbrev pub is_nonce_byte : ℕ → Bool
is_nonce_byte b = is_ascii_alphanumeric b || b == 45 || b == 95

-- 1 to 64 such bytes
abbrev pub is_nonce : List ℕ → Bool
is_nonce bytes = nat_lt 0 (length bytes) && nat_le (length bytes) 64 && list_all is_nonce_byte bytes

-- What is proved by the token: the port, so that no other service's proof will do, and what was said.
abbrev pub proved_text : ℕ → List ℕ → List ℕ
proved_text port nonce = decimal port ++ codes ":" ++ nonce

-- in hex; without a token nothing is proved
abbrev pub proof_by : ℕ → Option (List ℕ) → List ℕ → List ℕ
proof_by port None nonce = []
proof_by port (Some token) nonce = encode_lower (hmac token (proved_text port nonce))

abbrev pub proof_of : AccessRules → List ℕ → List ℕ
proof_of rules nonce = proof_by rules.port rules.token nonce

-- ---- where it is asked for

abbrev pub nonce_of : List ℕ → Option (List ℕ)
nonce_of target = if starts_with nat_eq target (codes "/prove/") then where_it is_nonce (drop 7 target) else None

abbrev pub nonce_with : Option PageView → List ℕ → Option (List ℕ)
nonce_with None target = None
nonce_with (Some page) target = nonce_of target

-- what a whole target says that is to be proved: where there is a token, and a page
abbrev pub nonce_by : Option (List ℕ) → Option PageView → List ℕ → Option (List ℕ)
nonce_by None page target = None
nonce_by (Some token) page target = nonce_with page target

abbrev pub nonce_at : SiteRules → List ℕ → Option (List ℕ)
nonce_at site target = nonce_by site.access.token site.page target
