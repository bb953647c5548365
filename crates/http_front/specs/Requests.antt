-- The requests of a byte string and its tail (RFC 9112, sections 2 to 6).
use Rattle.std.specs.Prelude.{◌≡◌, ℕ, ◌<◌, ◌≤◌, ◌⊎◌, List, [], ◌∷◌, ◌++◌, length, take, map, Bool, ◌||◌, not, nat_lt, ◌==◌, if◌then◌else◌, Result, Ok, Err, codes}
use Rattle.std.specs.Str.{bytes_eq}
use Rattle.std.specs.List.{before_first}
use Rattle.httparse.specs.Grammar.{RequestHead, print_request, ReadsRequest, HasNoRequest, MayBecomeRequest}
use Rattle.httparse.specs.Spans.{name_and_value}
use Rattle.http_front.specs.declared.head.TheConstants.{LINE_LIMIT}
use Rattle.http_front.specs.declared.looking.TheConstants.{HEAD_LIMIT}
use Rattle.http_front.specs.declared.head_fault.HeadFault.{HeadFault}
use Rattle.http_front.specs.declared.head_fault.HeadFault.TheVariants.{BadHead, HeadTooLong, NoLength}
use Rattle.http_front.specs.declared.request.Request.{Request}
use Rattle.http_front.specs.Lines.{FieldLine, values_of, first_of, any_is, body_length}

-- ---- one head

-- a request line and the field lines below it, without the white space and the line ends
pub record Head : Type 0 where
  pub method : List ℕ
  pub target : List ℕ
  pub minor : ℕ
  pub lines : List FieldLine

-- what a head of the grammar states
abbrev pub head_of : RequestHead → Head
head_of h = record { method = h.method; target = h.target; minor = h.minor; lines = map name_and_value h.fields }

-- the most field lines that a head may have
abbrev pub line_limit : ℕ
line_limit = LINE_LIMIT

-- whether the method is one that must state a length
abbrev pub wants_length : List ℕ → Bool
wants_length method = bytes_eq method (codes "POST") || bytes_eq method (codes "PUT")

-- the length of the body, or the first rule that the head breaks
unfoldable pub length_of : Head → Result ℕ HeadFault
length_of h =
    if nat_lt line_limit (length h.lines) then Err HeadTooLong
    else if not (h.minor == 1) then Err BadHead
    else if not (length (values_of (codes "Host") h.lines) == 1) then Err BadHead
    else if nat_lt 0 (length (values_of (codes "Transfer-Encoding") h.lines)) then Err NoLength
    else body_length (wants_length h.method) (values_of (codes "Content-Length") h.lines)

-- the part of a target before its query
abbrev pub path_of : List ℕ → List ℕ
path_of target = before_first (λ b. b == 63) target

-- what a head and a body ask
unfoldable pub request_of : Head → List ℕ → Request
request_of h body = record {
  method = h.method;
  path = path_of h.target;
  token = first_of (values_of (codes "Authorization") h.lines);
  machine = first_of (values_of (codes "Ts-Machine-Key") h.lines);
  close = any_is (codes "close") (values_of (codes "Connection") h.lines);
  body = body;
}

-- ---- the front of a byte string

-- the most bytes that a head may have: 16 KiB
abbrev pub head_limit : ℕ
head_limit = HEAD_LIMIT

-- the bytes are a whole head within the limit, and then rest
pub record HasHead (bytes : List ℕ) (h : RequestHead) (rest : List ℕ) : Type 0 where
  pub reads : ReadsRequest bytes h rest
  pub fits : length (print_request h) ≤ head_limit

-- the bytes begin a head and hold no whole one; a target that hasn't ended is taken as sound
pub record BeginsHead (bytes : List ℕ) : Type 0 where
  pub begins : MayBecomeRequest bytes
  pub none : HasNoRequest bytes

-- there are bytes, and they hold no head and begin none
pub record IsNoHead (bytes : List ℕ) : Type 0 where
  pub some : 0 < length bytes
  pub none : HasNoRequest bytes
  pub broken : MayBecomeRequest bytes → ⊥

-- the bytes are a whole request within the limits, and then rest
pub record IsWhole (bytes : List ℕ) (request : Request) (rest : List ℕ) : Type 0 where
  pub head : RequestHead
  pub has : HasHead bytes head (request.body ++ rest)
  pub length_is : length_of (head_of head) ≡ Ok (length request.body)
  pub request_is : request ≡ request_of (head_of head) request.body

-- the bytes are a head that breaks no rule, and less than its body
pub record LacksBody (bytes : List ℕ) : Type 0 where
  pub head : RequestHead
  pub rest : List ℕ
  pub has : HasHead bytes head rest
  pub size : ℕ
  pub length_is : length_of (head_of head) ≡ Ok size
  pub short : length rest < size

-- no whole request yet, and nothing that is refused
abbrev pub IsUnfinished : List ℕ → Type 0
IsUnfinished bytes = ((length bytes ≤ head_limit) × BeginsHead bytes) ⊎ LacksBody bytes

-- the bytes have a head that breaks a rule, and this is the first
pub record IsRefused (bytes : List ℕ) (fault : HeadFault) : Type 0 where
  pub head : RequestHead
  pub rest : List ℕ
  pub has : HasHead bytes head rest
  pub length_is : length_of (head_of head) ≡ Err fault

-- the bytes begin a head that doesn't end within the limit
pub record IsTooLong (bytes : List ℕ) : Type 0 where
  pub long : head_limit < length bytes
  pub begins : BeginsHead (take head_limit bytes)

-- the bytes are refused: a head that breaks a rule, a head that is too long, or no head
abbrev pub IsBad : List ℕ → HeadFault → Type 0
IsBad bytes fault =
    IsRefused bytes fault
    ⊎ (((fault ≡ HeadTooLong) × IsTooLong bytes) ⊎ ((fault ≡ BadHead) × IsNoHead (take head_limit bytes)))

-- ---- the whole of it

-- what stands behind the last whole request: nothing, a part of a request, or what is refused
pub data Tail : Type 0 where
  at_end : Tail
  cut : Tail
  bad : HeadFault → Tail

-- the bytes, which begin with no whole request, are that tail
abbrev pub IsTail : List ℕ → Tail → Type 0
IsTail bytes at_end = bytes ≡ []
IsTail bytes cut = (0 < length bytes) × IsUnfinished bytes
IsTail bytes (bad fault) = IsBad bytes fault

-- the bytes are these whole requests, and then rest
abbrev pub Leads : List ℕ → List Request → List ℕ → Type 0
Leads bytes [] rest = bytes ≡ rest
Leads bytes (request ∷ more) rest = (middle : List ℕ) × IsWhole bytes request middle × Leads middle more rest

-- the bytes are these whole requests and this tail
abbrev pub Splits : List ℕ → List Request → Tail → Type 0
Splits bytes requests tail = (rest : List ℕ) × Leads bytes requests rest × IsTail rest tail
