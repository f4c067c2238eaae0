-- THE RULE OF SERVICE ORDER. Each unit serves its requests sweep by sweep. Each line of a unit names the head of its queue, and the
-- end of that head removes it.
use Rattle.std.specs.Prelude.{◌≡◌, ℕ, ◌+◌, ◌-◌, ◌*◌, ◌/◌, List, [], ◌∷◌, Option, None, Some}
use Rattle.pack_geometry.specs.declared.DriveKind.{DriveKind}
use Rattle.pack_geometry.specs.declared.Place.{Place}
use Rattle.pack_geometry.specs.Geometry.{place_at}
use Rattle.trace_replay.specs.requests.ServiceOrder.{Waiting, Service, after_join, after_leave}
use Rattle.trace_replay.specs.requests.Part.TheVariants as part
use Rattle.trace_replay.specs.requests.Requests.{Request, first_block}
use Rattle.trace_replay.specs.Moments.{Deed, End}

-- the cylinder of a request is that of its first block
abbrev pub target_of : DriveKind → Request → Place
target_of kind r = place_at kind (first_block kind r)

-- by which the queue is sorted
abbrev pub cylinder_of : DriveKind → Request → ℕ
cylinder_of kind r = (target_of kind r).cylinder

-- the head of the queue, if there is one
abbrev pub first_waiting : List (Waiting Request) → Option Request
first_waiting [] = None
first_waiting (w ∷ rest) = Some w.request

-- the request in hand, if there is one
abbrev pub head_of : Service Request → Option Request
head_of service = first_waiting service.waiting

-- a request that asks for nothing, where none is in hand
abbrev pub no_request : Request
no_request = record { id = 0; unit = 0; part = part.A; block = 0; count = 0; last = 0; offset = 0; written = None }

-- a request, or the one that asks for nothing
abbrev pub request_or_none : Option Request → Request
request_or_none None = no_request
request_or_none (Some r) = r

-- the request in hand
abbrev pub in_hand : Service Request → Request
in_hand service = request_or_none (head_of service)

-- the id of a request, if there is one
abbrev pub ids : Option Request → Option ℕ
ids None = None
ids (Some r) = Some r.id

-- a line names the head
abbrev pub ServiceMay : Service Request → ℕ → Type 0
ServiceMay service id = ids (head_of service) ≡ Some id

-- what a line leaves: an end removes the head
abbrev pub service_after : Service Request → Deed → Service Request
service_after service (End answer) = after_leave service
service_after service deed = service

-- a request joins
abbrev pub service_joined : DriveKind → Request → Service Request → Service Request
service_joined kind r service = after_join (cylinder_of kind) r service

-- how many frames a request needs
abbrev pub frames_needed : Request → ℕ
frames_needed r = (r.offset + 512 * (r.count - 1) + r.last + 511) / 512
