mod Step
mod TurnList
mod SharedService
mod Round
mod Made
mod Deals
mod Inner
mod Ended
